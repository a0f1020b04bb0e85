-- Fronts of texts, and numbers that stop at a bound.
use Rattle.std.proofs.Common.{◌≡◌, ◌≤◌, ◌<◌, ◌+◌, ◌*◌, ◌∙◌, ℕ, Bool, List, [], ◌∷◌, ◌++◌, reverse, length, drop, min, inl, inr, sym, ap, arith}
use Rattle.std.specs.Prelude.{◌⊎◌}
use Rattle.std.proofs.Math.Nat.{mul-le-mul_left}
use Rattle.std.proofs.lemmas.Bool.{cases_lt}
use Rattle.lx_base.proofs.Fronts.{front_letters-after}
use Rattle.lx_base.specs.Letters.{front_letters, after_letters}
use Rattle.std.proofs.Math.Seq.{drop-append_seam}
use Rattle.std.proofs.lemmas.List.{reverse-append, reverse-reverse}
use Rattle.std.specs.Char.{digit_value}
use Rattle.std.specs.Str.Parse.{digits_value_after}

pub value-grows : (base n : ℕ) (ds : List ℕ) → 0 < base → n ≤ digits_value_after base n ds
value-grows base n [] some = omega arith
value-grows base n (c ∷ ds) some =
    let later : n * base + digit_value c ≤ digits_value_after base (n * base + digit_value c) ds = value-grows base (n * base + digit_value c) ds some in
    let first : n * 1 ≤ n * base = mul-le-mul_left n some in
    omega (arith, later, first)

cases_le : (a b : ℕ) → (a ≤ b) ⊎ (b ≤ a)
cases_le a b = elim (cases_lt a b) [ inl less ↦ inl (omega arith) | inr more ↦ inr more ]

by_size : (base n d most value : ℕ) (rest : List ℕ) → 0 < base → value ≡ min (min (n * base) most + d) most → (n * base + d ≤ most) ⊎ (most ≤ n * base + d)
    → min (digits_value_after base value rest) most ≡ min (digits_value_after base (n * base + d) rest) most
by_size base n d most value rest some is (inl fits) =
    let same : value ≡ n * base + d = omega arith in ap (λ v. min (digits_value_after base v rest) most) same
by_size base n d most value rest some is (inr over) =
    let stops : value ≡ most = omega arith in
    let one : value ≤ digits_value_after base value rest = value-grows base value rest some in
    let other : n * base + d ≤ digits_value_after base (n * base + d) rest = value-grows base (n * base + d) rest some in
    omega arith

-- a value that stops at a bound, after one more digit
pub value-next : (base n d most value : ℕ) (rest : List ℕ) → 0 < base → value ≡ min (min (n * base) most + d) most
    → min (digits_value_after base value rest) most ≡ min (digits_value_after base (n * base + d) rest) most
value-next base n d most value rest some is = by_size base n d most value rest some is (cases_le (n * base + d) most)

pub last-letters : (test : ℕ → Bool) (text before : List ℕ) → reverse before ≡ after_letters test (reverse text)
    → drop (length before) text ≡ reverse (front_letters test (reverse text))
last-letters test text before is =
    let last = front_letters test (reverse text) in
    let whole : text ≡ before ++ reverse last =
    sym (reverse-reverse text) ∙ ap reverse (sym (front_letters-after test (reverse text)) ∙ ap (λ l. last ++ l) (sym is)) ∙ reverse-append last (reverse before) ∙ ap (λ l. l ++ reverse last) (reverse-reverse before) in
    ap (drop (length before)) whole ∙ drop-append_seam before (reverse last)
