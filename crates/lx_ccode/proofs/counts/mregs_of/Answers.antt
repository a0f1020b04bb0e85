use Rattle.std.proofs.Common.{◌∙◌, ap}
use Rattle.lx_ccode.specs.Counts.{greatest_of, history_in}
use Rattle.lx_ccode.proofs.Greatest.{greatest-more}
use Rattle.lx_ccode.proofs.counts.mregs_of.Goals as goal

pub loop-block-preserved : goal.loop-block-preserved
loop-block-preserved c =
    greatest-more history_in c.args.blocks.now c.loop-block.block-index c.block-item.result c.loop-block.greatest _ _ _
    c.loop-block-test.true c.block-item.is (c.greatest_history.ensures ∙ ap (greatest_of history_in) c.as_slice.ensures) c.max-greatest.ensures c.loop-block.invariant
