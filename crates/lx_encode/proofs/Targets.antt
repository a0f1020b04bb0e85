-- Where a number leads, as an answer and as a relation.
use Rattle.std.proofs.Common.{◌≡◌, ℕ, ◌+◌, ◌<◌, ◌≤◌, ◌⊎◌, List, [], ◌∷◌, Some, None, refl, sym, ◌∙◌, ap, inl, inr, ⊎_elim, arith}
use Rattle.std.proofs.lemmas.Bool.{cases_lt}
use Rattle.std.proofs.lemmas.Bool.Decides.{nat_tests}
use Rattle.lx_encode.specs.declared.runs.Run.{Run}
use Rattle.lx_encode.specs.Runs.{InRun, LeadsTo, AreSortedFrom, target_of}
use Rattle.lx_encode.proofs.RunLists.{leads_from}

pub target_of-here : (x : Run) (xs : List Run) (n : ℕ) → x.lo ≤ n → n ≤ x.hi → target_of (x ∷ xs) n ≡ Some x.to
target_of-here x xs n low high = grind (arith, nat_tests)

pub target_of-later : (x : Run) (xs : List Run) (n : ℕ) → (InRun x n → ⊥) → target_of (x ∷ xs) n ≡ target_of xs n
target_of-later x xs n out =
    ⊎_elim (λ lt. before lt)
    (λ low. ⊎_elim (λ gt. after gt) (λ high. absurd (out (low, high))) (cases_lt x.hi n)) (cases_lt n x.lo)
  where
    before : n < x.lo → target_of (x ∷ xs) n ≡ target_of xs n
    before lt = grind (arith, nat_tests)

    after : x.hi < n → target_of (x ∷ xs) n ≡ target_of xs n
    after gt = grind (arith, nat_tests)

pub target_found : (low : ℕ) (xs : List Run) (n t : ℕ) → AreSortedFrom low xs → LeadsTo xs n t → target_of xs n ≡ Some t
target_found low [] n t h at = absurd at
target_found low (x ∷ xs) n t h at =
    ⊎_elim
    (λ here. target_of-here x xs n here.0.0 here.0.1 ∙ ap Some here.1)
    (λ later.
    let past : x.hi + 1 ≤ n = leads_from (x.hi + 1) xs n t h.3 later in
    let out : InRun x n → ⊥ = λ at'. omega arith in
    target_of-later x xs n out ∙ target_found (x.hi + 1) xs n t h.3 later) at

in_run : (x : Run) (n : ℕ) → InRun x n ⊎ (InRun x n → ⊥)
in_run x n =
    ⊎_elim (λ lt. inr (λ at. omega arith))
    (λ low. ⊎_elim (λ gt. inr (λ at. omega arith)) (λ high. inl (low, high)) (cases_lt x.hi n)) (cases_lt n x.lo)

pub target_none : (xs : List Run) (n : ℕ) → ((t : ℕ) → LeadsTo xs n t → ⊥) → target_of xs n ≡ None
target_none [] n none = refl
target_none (x ∷ xs) n none =
    ⊎_elim (λ here. absurd (none x.to (inl (here, refl))))
    (λ out. target_of-later x xs n out ∙ target_none xs n (λ t later. none t (inr later))) (in_run x n)

-- an answer is where the number leads
pub target_leads : (xs : List Run) (n t : ℕ) → target_of xs n ≡ Some t → LeadsTo xs n t
target_leads [] n t is = cc
target_leads (x ∷ xs) n t is =
    ⊎_elim
    (λ here. inl (here, same x.to t (sym (target_of-here x xs n here.0 here.1) ∙ is)))
    (λ out. inr (target_leads xs n t (sym (target_of-later x xs n out) ∙ is))) (in_run x n)
  where
    same : (a b : ℕ) → Some a ≡ Some b → a ≡ b
    same a b e = cc
