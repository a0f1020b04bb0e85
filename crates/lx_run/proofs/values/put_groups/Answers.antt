use Rattle.std.proofs.Common.{ap}
use Rattle.lx_run.specs.Values.{groups_text}
use Rattle.lx_run.proofs.PutTexts.{HasGiven-more, IsPut-refused, drop-next}
use Rattle.lx_run.proofs.values.put_groups.Goals as goal

pub returns-in_err-put_group : goal.returns-in_err-put_group
returns-in_err-put_group g c =
    let next = ap groups_text (drop-next c.args.groups.now c.loop-group.group-index _ c.loop-group-test.true) in
    IsPut-refused _ _ _ c.from_residual.result next c.loop-group.invariant c.in_err-put_group.ensures c.from_residual.ensures.1

pub loop-group-preserved : goal.loop-group-preserved
loop-group-preserved g c =
    let next = ap groups_text (drop-next c.args.groups.now c.loop-group.group-index _ c.loop-group-test.true) in
    HasGiven-more _ _ _ next c.loop-group.invariant c.in_ok-put_group.ensures
