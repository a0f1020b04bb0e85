use Rattle.std.proofs.Common.{◌↔◌, length, true}
use Rattle.lx_base.specs.Names.{IsWords}
use Rattle.lx_base.proofs.letters.is_words.Given as goal

abbrev pub invariant-loop-letter : goal.invariant-loop-letter
invariant-loop-letter l = IsWords l.after_space l.rest ↔ IsWords true l.word

abbrev pub decreases-loop-letter : goal.decreases-loop-letter
decreases-loop-letter l = length l.rest
