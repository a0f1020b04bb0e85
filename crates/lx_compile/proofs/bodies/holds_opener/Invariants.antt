use Rattle.std.proofs.Common.{◌≡◌, length}
use Rattle.lx_compile.specs.Facts.{holds_opener}
use Rattle.lx_compile.proofs.bodies.holds_opener.Given as goal

abbrev pub invariant-loop-behind : goal.invariant-loop-behind
invariant-loop-behind l = holds_opener l.rest ≡ holds_opener l.text

abbrev pub decreases-loop-behind : goal.decreases-loop-behind
decreases-loop-behind l = length l.rest
