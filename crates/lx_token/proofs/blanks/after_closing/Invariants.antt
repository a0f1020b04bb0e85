use Rattle.std.proofs.Common.{◌≡◌, ◌≤◌, length}
use Rattle.lx_token.specs.Blanks.{after_closing}
use Rattle.lx_token.proofs.blanks.after_closing.Given as goal

abbrev pub invariant-loop-tail : goal.invariant-loop-tail
invariant-loop-tail l = (after_closing l.rest ≡ after_closing l.text) × (length l.rest ≤ length l.text)

abbrev pub decreases-loop-tail : goal.decreases-loop-tail
decreases-loop-tail l = length l.rest
