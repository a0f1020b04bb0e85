use Rattle.std.proofs.Common.{◌≡◌, ◌≤◌, length}
use Rattle.lx_base.specs.Letters.{after_letters, is_letter_of}
use Rattle.lx_base.proofs.letters.after_letters.Given as goal

abbrev pub invariant-loop-letter : goal.invariant-loop-letter
invariant-loop-letter l = (after_letters (is_letter_of l.letters) l.rest ≡ after_letters (is_letter_of l.letters) l.text) × (length l.rest ≤ length l.text)

abbrev pub decreases-loop-letter : goal.decreases-loop-letter
decreases-loop-letter l = length l.rest
