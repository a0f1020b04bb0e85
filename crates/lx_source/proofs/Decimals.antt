-- The numbers of words, in decimal.
use Rattle.std.specs.Prelude.{ℕ, ◌+◌, ◌<◌, ◌≤◌, ◌%◌, ◌^◌, List, [], ◌∷◌, ◌++◌, length}
use Rattle.std.proofs.Common.{arith}
use Rattle.std.proofs.lemmas.Fmt.{decimal_by_steps, length-decimal-le}
use Rattle.std.specs.Fmt.{decimal}
use Rattle.lx_source.proofs.Spots.{AreDigits}

digits_append : (a : List ℕ) (digit : ℕ) → AreDigits a → digit < 10 → AreDigits (a ++ (48 + digit) ∷ [])
digits_append [] digit are few = (omega arith, omega arith, tt)
digits_append (c ∷ a) digit are few = (are.0, are.1, digits_append a digit are.2 few)

-- a number is written by digits
pub decimal_digits : (number : ℕ) → number < 2 ^ 64 → AreDigits (decimal number)
decimal_digits =
    decimal_by_steps (λ number word. AreDigits word) (λ number few. (omega arith, omega arith, tt))
    (λ number word many are. digits_append word (number % 10) are (omega arith))

-- one below 1000 by three of them at most
pub decimal_short : (number : ℕ) → number < 1000 → length (decimal number) ≤ 3
decimal_short number few = length-decimal-le 3 number (omega arith) (omega arith) (omega arith)
