use Rattle.std.proofs.Common.{arith}
use Rattle.lx_step.proofs.AssignmentPlaces.{counted-places, fewer-places}
use Rattle.lx_step.proofs.assignments.count_of_assignments.Goals as goal

pub overflow_add-count : goal.overflow_add-count
overflow_add-count c =
    let next = counted-places c.args.blocks.now c.loop-block.block-index c.loop-block.count c.count_among-count.result _ c.block-item.result c.as_slice.result.now
    c.loop-block-test.true c.block-item.is c.as_slice.ensures c.count_among-count.ensures c.loop-block.invariant in
    let few = fewer-places c.args.blocks.now _ _ next in
    omega (arith, few, c.requires)

pub loop-block-preserved : goal.loop-block-preserved
loop-block-preserved c =
    counted-places c.args.blocks.now c.loop-block.block-index c.loop-block.count c.count_among-count.result _ c.block-item.result c.as_slice.result.now
    c.loop-block-test.true c.block-item.is c.as_slice.ensures c.count_among-count.ensures c.loop-block.invariant
