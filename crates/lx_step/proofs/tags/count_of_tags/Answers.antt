use Rattle.std.proofs.Common.{◌+◌, arith}
use Rattle.lx_step.proofs.TagLists.{counted-block, length-tag_names-take}
use Rattle.lx_step.proofs.tags.count_of_tags.Goals as goal

pub overflow_add-count : goal.overflow_add-count
overflow_add-count c =
    let next = counted-block c.args.blocks.now c.loop-place.place c.loop-place.count c.count_of_new-count.result c.index-blocks-place.result c.as_slice.result.now
    c.loop-place-test.true c.index-blocks-place.is c.as_slice.ensures c.loop-place.invariant c.count_of_new-count.ensures in
    omega (arith, next, length-tag_names-take c.args.blocks.now (c.loop-place.place + 1), c.requires)

pub loop-place-preserved : goal.loop-place-preserved
loop-place-preserved c = counted-block c.args.blocks.now c.loop-place.place c.loop-place.count c.count_of_new-count.result c.index-blocks-place.result c.as_slice.result.now
    c.loop-place-test.true c.index-blocks-place.is c.as_slice.ensures c.loop-place.invariant c.count_of_new-count.ensures
