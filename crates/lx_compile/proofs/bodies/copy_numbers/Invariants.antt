use Rattle.std.proofs.Common.{◌≡◌, take}
use Rattle.lx_compile.proofs.bodies.copy_numbers.Given as goal

abbrev pub invariant-loop-number : goal.invariant-loop-number
invariant-loop-number l = l.copies ≡ take l.number-index l.numbers
