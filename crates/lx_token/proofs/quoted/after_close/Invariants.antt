use Rattle.std.proofs.Common.{◌≡◌, ◌≤◌, false, length}
use Rattle.lx_token.specs.Quoted.{after_close}
use Rattle.lx_token.proofs.quoted.after_close.Given as goal

abbrev pub invariant-loop-letter : goal.invariant-loop-letter
invariant-loop-letter l = (after_close l.close l.escaped l.rest ≡ after_close l.close false l.text) × (length l.rest ≤ length l.text)

abbrev pub decreases-loop-letter : goal.decreases-loop-letter
decreases-loop-letter l = length l.rest
