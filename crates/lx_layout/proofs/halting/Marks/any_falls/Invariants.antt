use Rattle.std.proofs.Common.{◌≡◌, drop}
use Rattle.lx_layout.specs.Halting.{any_falls}
use Rattle.lx_layout.specs.Marks.{seen_marks}
use Rattle.lx_layout.proofs.halting.Marks.any_falls.Given as goal

abbrev pub invariant-loop-number : goal.invariant-loop-number
invariant-loop-number l = any_falls (seen_marks l.self) l.number (drop l.number l.states) ≡ any_falls (seen_marks l.self) 0 l.states
