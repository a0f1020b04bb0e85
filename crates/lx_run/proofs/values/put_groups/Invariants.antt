use Rattle.std.proofs.Common.{drop}
use Rattle.lx_run.specs.Values.{groups_text}
use Rattle.lx_run.proofs.PutTexts.{HasGiven}
use Rattle.lx_run.proofs.values.put_groups.Given as goal

abbrev pub invariant-loop-group : goal.invariant-loop-group
invariant-loop-group g l =
    HasGiven (g.O.Sink.given l.initial.out) (g.O.Sink.given l.out) (g.O.Sink.faults l.initial.out) (g.O.Sink.faults l.out) (g.O.Sink.wants l.initial.out) (g.O.Sink.wants l.out)
    (groups_text l.groups) (groups_text (drop l.group-index l.groups))
