-- Strings and classes, with their escapes.
use Rattle.std.specs.Prelude.{ℕ, zero, suc, Bool, true, false, List, [], ◌∷◌, Option, Some, None, nat_le, ◌==◌, ◌||◌, if◌then◌else◌}
use Rattle.lx_base.specs.Letters.{is_within, is_digit}

-- 0 to 7
abbrev pub is_octal_digit : ℕ → Bool
is_octal_digit letter = is_within 48 55 letter

-- 0 to 9, a to f, A to F
abbrev pub is_hex_digit : ℕ → Bool
is_hex_digit letter = is_digit letter || is_within 97 102 letter || is_within 65 70 letter

-- the text begins with as many letters that pass the test
abbrev pub begins_with_digits : (ℕ → Bool) → (count : ℕ) → List ℕ → Bool
begins_with_digits test zero text = true
begins_with_digits test (suc count) [] = false
begins_with_digits test (suc count) (letter ∷ text) = if test letter then begins_with_digits test count text else false

-- whether a backslash, the letter and the text begin an escape: `\x` takes two hexadecimal digits, `\u` and `\X` four,
-- `\U` eight; an octal digit takes two more and goes up to `\377`; a line feed is escaped nowhere, and any other letter
-- stands by itself
abbrev pub is_escape : ℕ → List ℕ → Bool
is_escape letter text =
    if letter == 120 then begins_with_digits is_hex_digit 2 text
    else (if (letter == 117) || (letter == 88) then begins_with_digits is_hex_digit 4 text
    else (if letter == 85 then begins_with_digits is_hex_digit 8 text
    else (if is_octal_digit letter then (if nat_le letter 51 then begins_with_digits is_octal_digit 2 text else false)
    else (if letter == 10 then false else true))))

-- what follows the next closing letter, behind bytes that are neither a backslash nor a line feed, and escapes. The
-- digits of an escape are such bytes, so behind its backslash and its first letter the text goes on as before
abbrev pub after_close : (close : ℕ) (escaped : Bool) → List ℕ → Option (List ℕ)
after_close close escaped [] = None
after_close close true (letter ∷ text) = if is_escape letter text then after_close close false text else None
after_close close false (letter ∷ text) =
    if letter == close then Some text else (if letter == 10 then None else after_close close (letter == 92) text)

-- what follows the string or the class that begins with `opener` and ends with `close`
abbrev pub after_quoted : (opener close : ℕ) → List ℕ → Option (List ℕ)
after_quoted opener close [] = None
after_quoted opener close (letter ∷ text) = if letter == opener then after_close close false text else None
