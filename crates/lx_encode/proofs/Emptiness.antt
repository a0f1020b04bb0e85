-- What the test of emptiness says of a list of runs.
use Rattle.std.proofs.Common.{◌≡◌, ℕ, true, false, List, [], length, ap, sym, ◌∙◌, arith}
use Rattle.std.specs.Prelude.{◌==◌}
use Rattle.std.proofs.lemmas.Bool.Decides.{nat_tests}
use Rattle.std.proofs.lemmas.List.{nil_from_length}
use Rattle.lx_encode.specs.declared.runs.Run.{Run}

pub is_empty-true : (xs : List Run) (n : ℕ) → n ≡ length xs → true ≡ (n == 0) → xs ≡ []
is_empty-true xs n is test = nil_from_length xs (sym is ∙ zero_is n test)
  where
    zero_is : (n : ℕ) → true ≡ (n == 0) → n ≡ 0
    zero_is n test = grind (arith, nat_tests)

pub is_empty-false : (xs : List Run) (n : ℕ) → n ≡ length xs → false ≡ (n == 0) → xs ≡ [] → ⊥
is_empty-false xs n is test none = clash n (is ∙ ap length none) test
  where
    clash : (n : ℕ) → n ≡ 0 → false ≡ (n == 0) → ⊥
    clash n is test = grind (arith, nat_tests)
