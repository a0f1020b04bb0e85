-- The letters at the front of a text, and equal words.
use Rattle.std.proofs.Common.{◌≡◌, ◌≤◌, ◌-◌, ◌∙◌, ℕ, suc, Bool, true, false, List, [], ◌∷◌, ◌++◌, length, take, refl, sym, ap, arith}
use Rattle.std.specs.Prelude.{cond, nat_eq, ◌&&◌}
use lib.Pointwise.{pointwise}
use Rattle.lx_base.specs.Letters.{after_letters, equal_words, front_letters}

after_letters-le : (test : ℕ → Bool) (text : List ℕ) → length (after_letters test text) ≤ length text
after_letters-le test [] = omega arith
after_letters-le test (letter ∷ text) = by_test (test letter) (after_letters-le test text)
  where
    by_test : (t : Bool) → length (after_letters test text) ≤ length text → length (cond t (after_letters test text) (letter ∷ text)) ≤ length (letter ∷ text)
    by_test true le = omega arith
    by_test false le = omega arith

pub front_letters-take : (test : ℕ → Bool) (text : List ℕ) → front_letters test text ≡ take (length text - length (after_letters test text)) text
front_letters-take test [] = refl
front_letters-take test (letter ∷ text) = by_test (test letter) (front_letters-take test text)
  where
    by_test : (t : Bool) → front_letters test text ≡ take (length text - length (after_letters test text)) text
        → cond t (letter ∷ front_letters test text) [] ≡ take (length (letter ∷ text) - length (cond t (after_letters test text) (letter ∷ text))) (letter ∷ text)
    by_test true same =
        let le = after_letters-le test text in
        let one : length (letter ∷ text) - length (after_letters test text) ≡ suc (length text - length (after_letters test text)) = omega arith in
        ap (λ (l : List ℕ). letter ∷ l) same ∙ sym (ap (λ n. take n (letter ∷ text)) one)
    by_test false same =
        let none : length (letter ∷ text) - length (letter ∷ text) ≡ 0 = omega arith in
        sym (ap (λ n. take n (letter ∷ text)) none)

pub equal_words-value : (word other : List ℕ) → pointwise nat_eq word other ≡ equal_words word other
equal_words-value [] [] = refl
equal_words-value [] (letter ∷ other) = refl
equal_words-value (letter ∷ word) [] = refl
equal_words-value (letter ∷ word) (next ∷ other) = by_test (nat_eq letter next) _ _ (equal_words-value word other)
  where
    by_test : (t a b : Bool) → a ≡ b → ◌≡◌ {A = Bool} (t && a) (cond t b false)
    by_test true a b same = same
    by_test false a b same = refl

pub front_letters-after : (test : ℕ → Bool) (text : List ℕ) → front_letters test text ++ after_letters test text ≡ text
front_letters-after test [] = refl
front_letters-after test (letter ∷ text) = by_test (test letter) (front_letters-after test text)
  where
    by_test : (t : Bool) → front_letters test text ++ after_letters test text ≡ text
        → cond t (letter ∷ front_letters test text) [] ++ cond t (after_letters test text) (letter ∷ text) ≡ letter ∷ text
    by_test true same = ap (λ (l : List ℕ). letter ∷ l) same
    by_test false same = refl
