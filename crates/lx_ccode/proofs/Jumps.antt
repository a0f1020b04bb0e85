-- The ends of lines that jump are read again.
use Rattle.std.proofs.Common.{◌++◌, ◌<◌, ◌^◌, ◌∷◌, ◌≡◌, List, refl, ℕ}
use Rattle.std.specs.Fmt.{decimal}
use Rattle.lx_base.specs.Letters.{is_digit}
use Rattle.lx_ccode.specs.Reading.{goto_block, goto_tail}
use Rattle.lx_ccode.specs.Text.{goto_then}
use Rattle.lx_ccode.proofs.Words.{behind-stop, decimal_digits, decimal_value, front-stop}

pub goto_block-goto : (number place : ℕ) (tail : List ℕ) → number < 2 ^ 64 → place < 2 ^ 64 → goto_block (goto_then number place tail) ≡ place
unfolding goto_block
goto_block-goto number place tail h k = rw (behind-stop is_digit (decimal number) 95 (decimal place ++ 59 ∷ 10 ∷ tail) (decimal_digits number h) refl, front-stop is_digit (decimal place) 59 (10 ∷ tail) (decimal_digits place k) refl) (decimal_value place k)

pub goto_tail-goto : (number place : ℕ) (tail : List ℕ) → number < 2 ^ 64 → place < 2 ^ 64 → goto_tail (goto_then number place tail) ≡ tail
unfolding goto_tail
goto_tail-goto number place tail h k = rw (behind-stop is_digit (decimal number) 95 (decimal place ++ 59 ∷ 10 ∷ tail) (decimal_digits number h) refl, behind-stop is_digit (decimal place) 59 (10 ∷ tail) (decimal_digits place k) refl) refl
