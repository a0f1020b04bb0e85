use Rattle.std.proofs.Common.{max, arith}
use Rattle.lx_step.specs.Sizes.{groups_of_all}
use Rattle.lx_step.proofs.BlockLists.{gathered-more}
use Rattle.lx_step.proofs.GroupCounts.{groups_of_all-append}
use Rattle.lx_step.proofs.sizes.groups_of_blocks.Goals as goal

pub loop-block-preserved : goal.loop-block-preserved
loop-block-preserved c =
    let told = c.groups_of_statements.ensures in
    let most = c.max-groups.ensures in
    gathered-more (λ statements groups. max groups (groups_of_all statements)) groups_of_all-append c.args.blocks.now c.loop-block.block-index c.block-item.result c.as_slice.result.now
    c.loop-block.groups c.max-groups.result _ c.loop-block-test.true c.block-item.is c.as_slice.ensures (omega (arith, told, most)) c.loop-block.invariant
