use Rattle.std.proofs.Common.{◌≡◌, ◌++◌, length}
use Rattle.lx_ccode.specs.Bodies.{filled}
use Rattle.lx_ccode.proofs.bodies.append_filled.Given as goal

abbrev pub invariant-loop-letter : goal.invariant-loop-letter
invariant-loop-letter l = l.text.items ++ filled l.word l.rest ≡ l.initial.text.items ++ filled l.word l.format

abbrev pub decreases-loop-letter : goal.decreases-loop-letter
decreases-loop-letter l = length l.rest
