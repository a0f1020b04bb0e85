use Rattle.std.proofs.Common.{◌≡◌, ◌≤◌, false, length}
use Rattle.lx_token.specs.Braces.{after_literal}
use Rattle.lx_token.proofs.braces.after_literal.Given as goal

abbrev pub invariant-loop-letter : goal.invariant-loop-letter
invariant-loop-letter l = (after_literal l.quote l.escaped l.rest ≡ after_literal l.quote false l.text) × (length l.rest ≤ length l.text)

abbrev pub decreases-loop-letter : goal.decreases-loop-letter
decreases-loop-letter l = length l.rest
