use Rattle.std.proofs.Common.{◌≡◌, ◌++◌, length}
use Rattle.lx_token.specs.Characters.{characters_behind, characters_of}
use Rattle.lx_token.proofs.characters.characters_of.Given as goal

abbrev pub invariant-loop-letter : goal.invariant-loop-letter
invariant-loop-letter l = l.characters ++ characters_behind 0 l.rest ≡ characters_of l.text

abbrev pub decreases-loop-letter : goal.decreases-loop-letter
decreases-loop-letter l = length l.rest
