use Rattle.std.proofs.Common.{drop}
use Rattle.lx_run.specs.Values.{entries_text}
use Rattle.lx_run.proofs.PutTexts.{HasGiven}
use Rattle.lx_run.proofs.values.put_entries.Given as goal

abbrev pub invariant-loop-entry : goal.invariant-loop-entry
invariant-loop-entry g l =
    HasGiven (g.O.Sink.given l.initial.out) (g.O.Sink.given l.out) (g.O.Sink.faults l.initial.out) (g.O.Sink.faults l.out) (g.O.Sink.wants l.initial.out) (g.O.Sink.wants l.out)
    (entries_text l.entries) (entries_text (drop l.entry-index l.entries))
