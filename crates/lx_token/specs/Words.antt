-- Names, configuration words, numbers and tags.
use Rattle.std.specs.Prelude.{ℕ, Bool, false, List, [], ◌∷◌, codes, drop, Option, Some, None, ◌==◌, ◌||◌, if◌then◌else◌}
use Rattle.lx_base.specs.Letters.{begins_identifier, is_in_identifier, is_digit, begins_with, after_letters}

-- what follows the letter, if the text begins with it
abbrev pub after_letter : ℕ → List ℕ → Option (List ℕ)
after_letter wanted [] = None
after_letter wanted (letter ∷ text) = if letter == wanted then Some text else None

-- what follows the longest name that begins here: a letter or `_`, then letters, digits and `_`
abbrev pub after_name : List ℕ → Option (List ℕ)
after_name [] = None
after_name (letter ∷ text) = if begins_identifier letter then Some (after_letters is_in_identifier text) else None

-- a letter, a digit, `_` or `-`
abbrev pub is_in_word : ℕ → Bool
is_in_word letter = is_in_identifier letter || (letter == 45)

-- whether a letter of a word stands here
abbrev pub begins_word : List ℕ → Bool
begins_word [] = false
begins_word (letter ∷ text) = is_in_word letter

-- what is left of the text behind the rest of a word, and behind all further words that a colon leads
abbrev pub after_words : List ℕ → List ℕ
after_words [] = []
after_words (letter ∷ text) =
    if is_in_word letter then after_words text
    else (if letter == 58 then (if begins_word text then after_words text else letter ∷ text) else letter ∷ text)

-- what follows the longest configuration word: `re2c`, and one word or more that a colon leads
abbrev pub after_config : List ℕ → Option (List ℕ)
after_config text =
    if begins_with (codes "re2c:") text then (if begins_word (drop 5 text) then Some (after_words (drop 5 text)) else None)
    else None

-- what follows one digit or more
abbrev pub after_numeral : List ℕ → Option (List ℕ)
after_numeral [] = None
after_numeral (letter ∷ text) = if is_digit letter then Some (after_letters is_digit text) else None

-- what follows the longest number: digits, or `-` and digits
abbrev pub after_number : List ℕ → Option (List ℕ)
after_number [] = None
after_number (letter ∷ text) = if letter == 45 then after_numeral text else after_numeral (letter ∷ text)

-- what follows the longest tag: its mark, `@` or `#`, and a name
abbrev pub after_tag : (mark : ℕ) → List ℕ → Option (List ℕ)
after_tag mark [] = None
after_tag mark (letter ∷ text) = if letter == mark then after_name text else None
