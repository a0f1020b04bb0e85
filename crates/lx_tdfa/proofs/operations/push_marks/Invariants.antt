use Rattle.std.proofs.Common.{◌≡◌, ◌++◌, drop}
use Rattle.lx_tdfa.specs.Registers.{history_mark_ops}
use Rattle.lx_tdfa.proofs.operations.push_marks.Given as goal

abbrev pub invariant-loop-event : goal.invariant-loop-event
invariant-loop-event l =
    l.ops ++ history_mark_ops l.target l.tag (drop l.event-index l.events) ≡ l.initial.ops ++ history_mark_ops l.target l.tag l.events
