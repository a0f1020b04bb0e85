use Rattle.std.proofs.Common.{◌≡◌, ◌<◌, ℕ, drop, length}
use Rattle.lx_tdfa.specs.Marks.{mark_of}
use Rattle.lx_tdfa.specs.Registers.{last_mark}
use Rattle.lx_tdfa.proofs.marks.note_marks.Given as goal

abbrev pub invariant-loop-event : goal.invariant-loop-event
invariant-loop-event l = (tag : ℕ) → tag < length l.initial.marks
    → last_mark tag (drop l.event-index l.events) (mark_of l.marks tag) ≡ last_mark tag l.events (mark_of l.initial.marks tag)
