-- The characters of strings and classes.
use Rattle.std.specs.Prelude.{ℕ, zero, suc, ◌+◌, ◌-◌, ◌*◌, Bool, true, false, List, [], ◌∷◌, length, take, drop, min, nat_le, ◌==◌, ◌||◌, if◌then◌else◌}
use Rattle.lx_token.specs.declared.characters.Character.{Character}
use Rattle.lx_token.specs.Quoted.{is_octal_digit}

-- the value of a digit: `0` to `9`, then `A` to `F` in either case; at most 15 for any other byte
abbrev pub digit_value : ℕ → ℕ
digit_value letter = if nat_le letter 57 then letter - 48 else (if nat_le letter 70 then letter - 55 else min 15 (letter - 87))

-- the value of as many digits at the front of the text, behind digits of this value
abbrev pub digits_value : (base count value : ℕ) → List ℕ → ℕ
digits_value base zero value text = value
digits_value base (suc count) value [] = 0
digits_value base (suc count) value (letter ∷ text) = digits_value base count (base * value + digit_value letter) text

-- the code point of the escape that is spelled so behind its backslash
abbrev pub escape_point : List ℕ → ℕ
escape_point [] = 0
escape_point (letter ∷ text) =
    if letter == 120 then digits_value 16 2 0 text
    else (if (letter == 117) || (letter == 88) then digits_value 16 4 0 text
    else (if letter == 85 then digits_value 16 8 0 text
    else (if is_octal_digit letter then digits_value 8 2 (letter - 48) text
    else (if letter == 97 then 7 else (if letter == 98 then 8 else (if letter == 102 then 12 else (if letter == 110 then 10
    else (if letter == 114 then 13 else (if letter == 116 then 9 else (if letter == 118 then 11 else letter))))))))))

-- how many bytes the escape has behind its backslash
abbrev pub escape_size : List ℕ → ℕ
escape_size [] = 0
escape_size (letter ∷ text) =
    if letter == 120 then 3 else (if (letter == 117) || (letter == 88) then 5 else (if letter == 85 then 9
    else (if is_octal_digit letter then 3 else 1)))

-- a character, by its code point and whether an escape spells it
abbrev pub character : ℕ → Bool → Character
character point is_escaped = record { point = point; is_escaped = is_escaped }

-- the characters of a text, behind bytes at its front that belong to an escape: a byte stands for itself
abbrev pub characters_behind : (size : ℕ) → List ℕ → List Character
characters_behind size [] = []
characters_behind (suc size) (letter ∷ text) = characters_behind size text
characters_behind zero (letter ∷ text) =
    if letter == 92 then character (escape_point text) true ∷ characters_behind (escape_size text) text
    else character letter false ∷ characters_behind zero text

-- the characters of a string or class: those of the text without its first and its last byte
abbrev pub characters_of : List ℕ → List Character
characters_of text = characters_behind 0 (take (length text - 2) (drop 1 text))
