-- The values of numbers and of bounds.
use Rattle.std.specs.Prelude.{ℕ, ◌+◌, ◌-◌, ◌*◌, ◌^◌, true, false, List, [], ◌∷◌, min, drop, codes, Option, Some, None, ◌==◌, if◌then◌else◌}
use Rattle.lx_base.specs.Letters.{is_digit, begins_with, after_letters}
use Rattle.lx_token.specs.declared.numbers.Number.{Number}
use Rattle.lx_token.specs.declared.numbers.Repeat.{Repeat}

-- the value of the decimal digits at the front of the text, behind digits of this value
abbrev pub value_behind : ℕ → List ℕ → ℕ
value_behind value [] = value
value_behind value (letter ∷ text) = if is_digit letter then value_behind (10 * value + (letter - 48)) text else value

-- the value of the digits at the front of the text; 2^40 stands for itself and for more
abbrev pub numeral_value : List ℕ → ℕ
numeral_value text = min (2 ^ 40) (value_behind 0 text)

-- the sign and the value of a number
abbrev pub number_of : List ℕ → Number
number_of [] = record { is_negative = false; magnitude = 0 }
number_of (letter ∷ text) =
    if letter == 45 then record { is_negative = true; magnitude = numeral_value text }
    else record { is_negative = false; magnitude = numeral_value (letter ∷ text) }

-- the greatest count, by what follows the least one: `}`, `,}`, or `,` and the greatest
abbrev pub greatest_of : (least : ℕ) → List ℕ → Option ℕ
greatest_of least text =
    if begins_with (codes ",") text then (if begins_with (codes ",}") text then None else Some (numeral_value (drop 1 text)))
    else Some least

-- the least and the greatest count of bounds
abbrev pub repeat_of : List ℕ → Repeat
repeat_of text = let least = numeral_value (drop 1 text) in record {
  min = least;
  max = greatest_of least (after_letters is_digit (drop 1 text));
}
