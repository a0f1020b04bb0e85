use Rattle.std.proofs.Common.{arith}
use Rattle.lx_step.specs.Numbers.{numbers_from}
use Rattle.lx_step.proofs.BlockLists.{gathered-more}
use Rattle.lx_step.proofs.CountedNumbers.{length-next_block, numbers_from-append}
use Rattle.lx_step.proofs.numbers.add_those_of_blocks.Goals as goal

pub returns-in_err-add_those_of-clause-succeeds : goal.returns-in_err-add_those_of-clause-succeeds
returns-in_err-add_those_of-clause-succeeds c = λ enough.
    let all = length-next_block c.args.sort c.args.blocks.now c.loop-block.block-index c.block-item.result c.as_slice.result.now c.loop-block.numbers.keys _ c.loop-block-test.true c.block-item.is c.as_slice.ensures c.loop-block.invariant.keys in
    let room = c.loop-block.invariant.room in
    absurd (let bad = c.in_err-add_those_of.ensures.succeeds (omega (arith, all, enough, room)) in cc)

pub loop-block-preserved : goal.loop-block-preserved
loop-block-preserved c = record {
  keys = gathered-more (numbers_from c.args.sort) (numbers_from-append c.args.sort) c.args.blocks.now c.loop-block.block-index c.block-item.result c.as_slice.result.now _ _ _
      c.loop-block-test.true c.block-item.is c.as_slice.ensures c.in_ok-add_those_of.ensures.keys c.loop-block.invariant.keys;
  room = let kept = c.in_ok-add_those_of.ensures.room in let room = c.loop-block.invariant.room in omega (arith, kept, room);
}
