use Rattle.std.proofs.Common.{◌≡◌, ◌≤◌, length}
use Rattle.lx_token.specs.Words.{after_words}
use Rattle.lx_token.proofs.words.after_words.Given as goal

abbrev pub invariant-loop-letter : goal.invariant-loop-letter
invariant-loop-letter l = (after_words l.rest ≡ after_words l.text) × (length l.rest ≤ length l.text)

abbrev pub decreases-loop-letter : goal.decreases-loop-letter
decreases-loop-letter l = length l.rest
