use Rattle.lx_step.proofs.BlockLists.{gathered-more}
use Rattle.lx_step.proofs.CountedNumbers.{least_in_all-append}
use Rattle.lx_step.specs.Numbers.{least_in_all}
use Rattle.lx_step.proofs.numbers.least_of_blocks.Goals as goal

pub loop-block-preserved : goal.loop-block-preserved
loop-block-preserved c =
    gathered-more (least_in_all c.args.sort c.args.from) (least_in_all-append c.args.sort c.args.from) c.args.blocks.now c.loop-block.block-index c.block-item.result c.as_slice.result.now _ _ _
    c.loop-block-test.true c.block-item.is c.as_slice.ensures c.least_of-least.ensures c.loop-block.invariant
