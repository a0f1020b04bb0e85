-- The digits of a number below 1,000, and what passes over them.
use Rattle.std.proofs.Common.{◌≡◌, ℕ, ◌+◌, ◌<◌, ◌≤◌, ◌%◌, false, List, [], ◌∷◌, ◌++◌, length, refl, arith}
use Rattle.std.proofs.lemmas.Bool.{ne_eqb}
use Rattle.std.proofs.lemmas.Fmt.{decimal_by_steps, length-decimal-le}
use Rattle.std.specs.Fmt.{decimal}
use Rattle.std.specs.Prelude.{◌==◌}
use Rattle.lx_split.specs.Marks.{begins_mark}
use Rattle.lx_split.specs.Searches.{from_first}
use Rattle.lx_token.specs.Braces.{after_literal}
use Rattle.lx_token.specs.Quoted.{after_close}

-- a digit of a numeral
pub record IsDigit (letter : ℕ) : Type 0 where
  pub low : 48 ≤ letter
  pub high : letter ≤ 57

-- digits alone
abbrev pub AreDigits : List ℕ → Type 0
AreDigits [] = Unit {0}
AreDigits (letter ∷ word) = IsDigit letter × AreDigits word

AreDigits-append : (front back : List ℕ) → AreDigits front → AreDigits back → AreDigits (front ++ back)
AreDigits-append [] back are more = more
AreDigits-append (letter ∷ front) back are more = (are.0, AreDigits-append front back are.1 more)

last_digit : (digit : ℕ) → digit < 10 → AreDigits ((48 + digit) ∷ [])
last_digit digit less = (record { low = omega arith; high = omega arith }, tt)

pub decimal-digits : (number : ℕ) → number < 1000 → AreDigits (decimal number)
decimal-digits number less =
    decimal_by_steps (λ _ digits. AreDigits digits) last_digit
    (λ number digits more are. AreDigits-append digits ((48 + number % 10) ∷ []) are (last_digit (number % 10) (omega arith))) number
    (omega arith)

pub decimal-length : (number : ℕ) → number < 1000 → length (decimal number) ≤ 3
decimal-length number less = length-decimal-le 3 number (omega arith) (omega arith) (omega arith)

-- a letter below the digits is none of them
pub digit-other : (letter other : ℕ) → IsDigit letter → other < 48 → (letter == other) ≡ false
digit-other letter other is less = let low = is.low in ne_eqb letter other (λ same. omega arith)

pub other-digit : (letter other : ℕ) → IsDigit letter → other < 48 → (other == letter) ≡ false
other-digit letter other is less = let low = is.low in ne_eqb other letter (λ same. omega arith)

-- nor is one above them
pub digit-later : (letter other : ℕ) → IsDigit letter → 57 < other → (letter == other) ≡ false
digit-later letter other is more = let high = is.high in ne_eqb letter other (λ same. omega arith)

pub after_close-digits : (digits tail : List ℕ) → AreDigits digits → after_close 34 false (digits ++ tail) ≡ after_close 34 false tail
after_close-digits [] tail are = refl
after_close-digits (letter ∷ digits) tail are =
    rw (digit-other letter 34 are.0 (omega arith), digit-other letter 10 are.0 (omega arith), digit-later letter 92 are.0 (omega arith))
    (after_close-digits digits tail are.1)

pub after_literal-digits : (digits tail : List ℕ) → AreDigits digits → after_literal 34 false (digits ++ tail) ≡ after_literal 34 false tail
after_literal-digits [] tail are = refl
after_literal-digits (letter ∷ digits) tail are =
    rw (digit-other letter 10 are.0 (omega arith), digit-other letter 34 are.0 (omega arith), digit-later letter 92 are.0 (omega arith))
    (after_literal-digits digits tail are.1)

-- no mark begins in digits
pub from_first-digits : (digits tail : List ℕ) → AreDigits digits → from_first begins_mark (digits ++ tail) ≡ from_first begins_mark tail
from_first-digits [] tail are = refl
from_first-digits (letter ∷ digits) tail are = rw (other-digit letter 47 are.0 (omega arith)) (from_first-digits digits tail are.1)
