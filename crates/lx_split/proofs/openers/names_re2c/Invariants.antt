use Rattle.std.proofs.Common.{◌≡◌, length}
use Rattle.lx_split.specs.Openers.{names_re2c}
use Rattle.lx_split.proofs.openers.names_re2c.Given as goal

abbrev pub invariant-loop-tail : goal.invariant-loop-tail
invariant-loop-tail l = names_re2c l.rest ≡ names_re2c l.word

abbrev pub decreases-loop-tail : goal.decreases-loop-tail
decreases-loop-tail l = length l.rest
