-- Letters, and words made of them.
use Rattle.std.specs.Prelude.{◌≡◌, ℕ, Bool, true, false, List, [], ◌∷◌, length, drop, nat_le, nat_lt, ◌==◌, ◌||◌, if◌then◌else◌}
use Rattle.std.specs.Char.{digit_value}
use Rattle.lx_base.specs.declared.letters.Letters.{Letters}
use Rattle.lx_base.specs.declared.letters.Letters.TheVariants.{Digits, Hexadecimal, Identifier, Spelling, TypeName, Opener}

-- a letter from `first` to `last`
abbrev pub is_within : ℕ → ℕ → ℕ → Bool
is_within first last letter = if nat_le first letter then nat_le letter last else false

abbrev pub is_digit : ℕ → Bool
is_digit letter = is_within 48 57 letter

-- a to z, A to Z, or `_`
abbrev pub begins_identifier : ℕ → Bool
begins_identifier letter = is_within 97 122 letter || is_within 65 90 letter || (letter == 95)

-- a letter, a digit or `_`
abbrev pub is_in_identifier : ℕ → Bool
is_in_identifier letter = is_digit letter || begins_identifier letter

-- a letter, a digit, or one of `_ . - > [ ] ( ) & *`
abbrev pub is_in_spelling : ℕ → Bool
is_in_spelling letter =
    is_in_identifier letter || (letter == 46) || (letter == 45) || (letter == 62) || (letter == 91) || (letter == 93)
    || (letter == 40) || (letter == 41) || (letter == 38) || (letter == 42)

-- a digit of a hexadecimal number
abbrev pub is_hexadecimal : ℕ → Bool
is_hexadecimal letter = nat_lt (digit_value letter) 16

-- a letter, a digit, `_`, or the space between the words of a type
abbrev pub is_in_type : ℕ → Bool
is_in_type letter = is_in_identifier letter || (letter == 32)

-- a letter, a digit, `_`, or the `:` in the word that opens a block
abbrev pub is_in_opener : ℕ → Bool
is_in_opener letter = is_in_identifier letter || (letter == 58)

-- the letters of a kind of words
abbrev pub is_letter_of : Letters → ℕ → Bool
is_letter_of Digits = is_digit
is_letter_of Hexadecimal = is_hexadecimal
is_letter_of Identifier = is_in_identifier
is_letter_of Spelling = is_in_spelling
is_letter_of TypeName = is_in_type
is_letter_of Opener = is_in_opener

-- the letters at the front that pass the test
abbrev pub front_letters : (ℕ → Bool) → List ℕ → List ℕ
front_letters test [] = []
front_letters test (letter ∷ text) = if test letter then letter ∷ front_letters test text else []

-- what is left of the text behind the letters at its front that pass the test
abbrev pub after_letters : (ℕ → Bool) → List ℕ → List ℕ
after_letters test [] = []
after_letters test (letter ∷ text) = if test letter then after_letters test text else letter ∷ text

-- the two words are equal
abbrev pub equal_words : List ℕ → List ℕ → Bool
equal_words [] [] = true
equal_words [] (other ∷ others) = false
equal_words (letter ∷ word) [] = false
equal_words (letter ∷ word) (other ∷ others) = if letter == other then equal_words word others else false

-- every letter of the word passes the test
abbrev pub EachLetter : (ℕ → Bool) → List ℕ → Type 0
EachLetter test [] = Unit {0}
EachLetter test (letter ∷ word) = (test letter ≡ true) × EachLetter test word

-- a letter or `_`, then letters, digits and `_`
abbrev pub IsIdentifier : List ℕ → Type 0
IsIdentifier [] = ⊥
IsIdentifier (letter ∷ word) = (begins_identifier letter ≡ true) × EachLetter is_in_identifier word

-- a word that is not empty, of the letters that spellings may have
abbrev pub IsSpelling : List ℕ → Type 0
IsSpelling word = (0 ≡ length word → ⊥) × EachLetter is_in_spelling word

-- every letter of the word passes the test, as a test
abbrev pub each_letter : (ℕ → Bool) → List ℕ → Bool
each_letter test [] = true
each_letter test (letter ∷ word) = if test letter then each_letter test word else false

-- the second word begins with the first
abbrev pub begins_with : List ℕ → List ℕ → Bool
begins_with [] word = true
begins_with (letter ∷ front) [] = false
begins_with (letter ∷ front) (other ∷ word) = if letter == other then begins_with front word else false

-- one digit or more
abbrev pub is_numeral : List ℕ → Bool
is_numeral [] = false
is_numeral (letter ∷ word) = if is_digit letter then each_letter is_digit word else false

-- `m`, and one digit or more
abbrev pub is_history_numeral : List ℕ → Bool
is_history_numeral [] = false
is_history_numeral (letter ∷ word) = if letter == 109 then is_numeral word else false

-- the prefix followed by digits: how the register of an s-tag is spelled
abbrev pub is_register : List ℕ → List ℕ → Bool
is_register prefix word = if begins_with prefix word then is_numeral (drop (length prefix) word) else false

-- the prefix followed by `m` and digits: how the register of an m-tag is spelled
abbrev pub is_history_register : List ℕ → List ℕ → Bool
is_history_register prefix word = if begins_with prefix word then is_history_numeral (drop (length prefix) word) else false
