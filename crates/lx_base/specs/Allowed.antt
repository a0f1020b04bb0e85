-- Which spellings are allowed, as tests of a word.
use Rattle.std.specs.Prelude.{ℕ, Bool, true, false, List, [], ◌∷◌, ◌==◌, ◌&&◌, ◌||◌, nat_lt, not, if◌then◌else◌}
use Rattle.lx_base.specs.Letters.{begins_identifier, each_letter, is_in_identifier, is_in_spelling}

-- a letter or `_`, then letters, digits and `_`
abbrev pub is_identifier : List ℕ → Bool
is_identifier [] = false
is_identifier (letter ∷ word) = begins_identifier letter && each_letter is_in_identifier word

-- a word that is not empty, of the letters that spellings may have
abbrev pub is_spelling : List ℕ → Bool
is_spelling [] = false
is_spelling (letter ∷ word) = each_letter is_in_spelling (letter ∷ word)

-- words with single spaces between them, after a space or after a letter
abbrev pub is_words : (after_space : Bool) → List ℕ → Bool
is_words after_space [] = not after_space
is_words true (letter ∷ word) = is_in_identifier letter && is_words false word
is_words false (letter ∷ word) = (is_in_identifier letter || (letter == 32)) && is_words (letter == 32) word

-- The spelling at this place, counted from 0, may be this word: the type of a code unit is words; names up to the call that
-- appends a negative event are spellings; and those of the scanner's own variables and the prefixes are identifiers.
abbrev pub may_spell : (place : ℕ) → List ℕ → Bool
may_spell place word = if place == 0 then is_words true word else (if nat_lt place 12 then is_spelling word else is_identifier word)
