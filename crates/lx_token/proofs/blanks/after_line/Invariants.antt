use Rattle.std.proofs.Common.{◌≡◌, ◌≤◌, length}
use Rattle.lx_token.specs.Blanks.{after_line}
use Rattle.lx_token.proofs.blanks.after_line.Given as goal

abbrev pub invariant-loop-letter : goal.invariant-loop-letter
invariant-loop-letter l = (after_line l.rest ≡ after_line l.text) × (length l.rest ≤ length l.text)

abbrev pub decreases-loop-letter : goal.decreases-loop-letter
decreases-loop-letter l = length l.rest
