use Rattle.std.proofs.Common.{◌∙◌, ap, arith}
use Rattle.lx_ccode.specs.Counts.{greatest_of, groups_in}
use Rattle.lx_ccode.proofs.Greatest.{greatest-more}
use Rattle.lx_ccode.proofs.counts.groups_of.Goals as goal

pub loop-block-preserved : goal.loop-block-preserved
loop-block-preserved c =
    let few = c.greatest_group.ensures.few in
    let most = c.max-greatest.ensures in
    let before = c.loop-block.invariant.1 in (
      greatest-more groups_in c.args.blocks.now c.loop-block.block-index c.block-item.result c.loop-block.greatest _ _ _
          c.loop-block-test.true c.block-item.is (c.greatest_group.ensures.size ∙ ap (greatest_of groups_in) c.as_slice.ensures) c.max-greatest.ensures c.loop-block.invariant.0,
      omega (arith, few, most, before),
    )
