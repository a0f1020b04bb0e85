use Rattle.std.proofs.Common.{◌≡◌, ◌++◌, drop}
use Rattle.lx_layout.specs.Marks.{halts_from}
use Rattle.lx_layout.proofs.halting.halts_of.Given as goal

abbrev pub invariant-loop-number : goal.invariant-loop-number
invariant-loop-number l =
    l.halts.items ++ halts_from l.greatest l.stands l.entered l.number (drop l.number l.states) ≡ halts_from l.greatest l.stands l.entered 0 l.states
