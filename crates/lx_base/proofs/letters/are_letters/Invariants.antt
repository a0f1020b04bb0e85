use Rattle.std.proofs.Common.{◌≡◌, length}
use Rattle.lx_base.specs.Letters.{each_letter, is_letter_of}
use Rattle.lx_base.proofs.letters.are_letters.Given as goal

abbrev pub invariant-loop-letter : goal.invariant-loop-letter
invariant-loop-letter l = each_letter (is_letter_of l.letters) l.rest ≡ each_letter (is_letter_of l.letters) l.word

abbrev pub decreases-loop-letter : goal.decreases-loop-letter
decreases-loop-letter l = length l.rest
