use Rattle.std.proofs.Common.{◌≡◌, ◌≤◌, length}
use Rattle.lx_split.specs.Openers.{from_opener}
use Rattle.lx_split.proofs.openers.from_opener.Given as goal

abbrev pub invariant-loop-tail : goal.invariant-loop-tail
invariant-loop-tail l = (from_opener l.opts l.rest ≡ from_opener l.opts l.text) × (length l.rest ≤ length l.text)

abbrev pub decreases-loop-tail : goal.decreases-loop-tail
decreases-loop-tail l = length l.rest
