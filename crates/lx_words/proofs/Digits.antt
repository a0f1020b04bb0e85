-- Decimal digits as a test.
use Rattle.std.proofs.Common.{◌≡◌, ◌≢◌, ℕ, ◌<◌, ◌^◌, ◌≤◌, Result, Err, OkIff, true, false, List, [], ◌∷◌, length, get_or, refl, subst, inl, inr, arith, rules}
use Rattle.std.proofs.lemmas.Bool.{cases_lt}
use Rattle.std.specs.Str.Parse.{ParsesUnsigned, digits_value}
use Rattle.std.proofs.lemmas.Str.Parse.{IsDigitsTest, IsNumeralModel, numerals_by_value, parse_plain}
use Rattle.lx_base.specs.Letters.{each_letter, is_digit}
use Rattle.lx_words.specs.Points.{is_number}

-- each letter is a digit
abbrev pub AreDigits : List ℕ → Type 0
AreDigits text = each_letter is_digit text ≡ true

pub digits_test : IsDigitsTest AreDigits
digits_test = record { empty = search rules; parts = search rules; more = search rules }

pub are_numerals : IsNumeralModel AreDigits (digits_value 10)
are_numerals = numerals_by_value AreDigits digits_test

-- digits do not begin with a sign
first-digit : (text : List ℕ) → AreDigits text → get_or text 0 0 ≢ 43
first-digit [] digits = λ same. absurd (omega arith)
first-digit (letter ∷ text) digits = λ same. let none : is_digit letter ≡ false = rw same refl in search rules

-- digits that are no number of 32 bits
pub parse-long : {E : Type 0} (text : List ℕ) (result : Result ℕ E) (error : E) → ParsesUnsigned 32 10 text result → is_number text ≡ true → result ≡ Err error
    → 2 ^ 32 ≤ digits_value 10 text
parse-long text result error parses number fails =
    let digits : AreDigits text = search rules in
    let some : 0 < length text = search rules in
    let known = parse_plain are_numerals 32 text result parses (first-digit text digits) in
    elim (cases_lt (digits_value 10 text) (2 ^ 32)) [
      | inl short ↦ absurd (subst (λ r. OkIff r (AreDigits text × (0 < length text) × (digits_value 10 text < 2 ^ 32)) (digits_value 10 text)) fails known (digits, some, short))
      | inr long ↦ long
    ]
