-- Different members of a list: their values together are at most those of the whole list.
use Rattle.std.proofs.Common.{sym, ap, subst, inl, inr, ⊎_elim, arith}
use Rattle.std.proofs.lemmas.List.Sums.{sum_by-cons}
use Rattle.std.specs.Prelude.{◌≡◌, ℕ, zero, suc, ◌+◌, ◌≤◌, ◌⊎◌, List, [], ◌∷◌, length, Some, slice_get, sum_by, refl}
use Rattle.lx_tdfa.proofs.WordKernels.OrderedLists.{IsMember}

-- no member stands in the list twice
abbrev pub AreDistinct : {A : Type 0} → List A → Type 0
AreDistinct [] = Unit {0}
AreDistinct (x ∷ xs) = (IsMember xs x → ⊥) × AreDistinct xs

-- the sum of values of the members
abbrev pub total : {A : Type 0} → (A → ℕ) → List A → ℕ
total f [] = 0
total f (x ∷ xs) = f x + total f xs

pub total-length : {A : Type 0} (xs : List A) → total (λ x. 1) xs ≡ length xs
total-length [] = refl
total-length (x ∷ xs) = let rest = total-length xs in omega (arith, rest)

pub total-sum : {A : Type 0} (f : A → ℕ) (xs : List A) → total f xs ≡ sum_by f xs
total-sum f [] = refl
total-sum f (x ∷ xs) = let rest = total-sum f xs in let first = sum_by-cons f x xs in omega (arith, rest, first)

-- the list without one of its members
without : {A : Type 0} (f : A → ℕ) (x : A) (ys : List A) → IsMember ys x
    → (rest : List A) × (total f ys ≡ f x + total f rest) × ((z : A) → IsMember ys z → (x ≡ z) ⊎ IsMember rest z)
without f x [] member = absurd member
without {A} f x (y ∷ ys) (inl here) = (ys, ap (λ v. f v + total f ys) here, split)
  where
    split : (z : A) → IsMember (y ∷ ys) z → (x ≡ z) ⊎ IsMember ys z
    split z (inl e) = inl (cc)
    split z (inr m) = inr m
without {A} f x (y ∷ ys) (inr later) =
    let r = without f x ys later in
    let e : total f ys ≡ f x + total f r.0 = r.1 in
    (y ∷ r.0, omega arith, split r.0 r.2)
  where
    split : (rest : List A) → ((z : A) → IsMember ys z → (x ≡ z) ⊎ IsMember rest z) → (z : A) → IsMember (y ∷ ys) z
        → (x ≡ z) ⊎ IsMember (y ∷ rest) z
    split rest more z (inl e) = inr (inl e)
    split rest more z (inr m) = ⊎_elim (λ e. inl e) (λ k. inr (inr k)) (more z m)

-- different members of a list have at most its sum
pub distinct-total : {A : Type 0} (f : A → ℕ) (xs ys : List A) → AreDistinct xs → ((z : A) → IsMember xs z → IsMember ys z)
    → total f xs ≤ total f ys
distinct-total f [] ys distinct within = omega arith
distinct-total {A} f (x ∷ xs) ys distinct within =
    let r = without f x ys (within x (inl refl)) in
    let e : total f ys ≡ f x + total f r.0 = r.1 in
    let more : total f xs ≤ total f r.0 = distinct-total f xs r.0 distinct.1 (rest r.0 r.2) in
    omega arith
  where
    rest : (others : List A) → ((z : A) → IsMember ys z → (x ≡ z) ⊎ IsMember others z) → (z : A) → IsMember xs z → IsMember others z
    rest others split z m =
        ⊎_elim (λ e. absurd (distinct.0 (subst (IsMember xs) (sym e) m))) (λ k. k) (split z (within z (inr m)))

-- the members of a list with their indices, from one number on
abbrev pub indexed : {A : Type 0} → ℕ → List A → List (ℕ × A)
indexed number [] = []
indexed number (x ∷ xs) = (number, x) ∷ indexed (suc number) xs

pub indexed-total : {A : Type 0} (f : A → ℕ) (number : ℕ) (xs : List A) → total (λ (pair : ℕ × A). f pair.1) (indexed number xs) ≡ total f xs
indexed-total f number [] = refl
indexed-total f number (x ∷ xs) = ap (λ n. f x + n) (indexed-total f (suc number) xs)

pub indexed-member : {A : Type 0} (number : ℕ) (xs : List A) (index : ℕ) (x : A) → slice_get xs index ≡ Some x
    → IsMember (indexed number xs) (number + index, x)
indexed-member number [] index x e = cc
indexed-member {A} number (y ∷ xs) zero x e =
    let same : y ≡ x = cc in
    let n : number ≡ number + 0 = omega arith in inl (λ i. (n i, same i))
indexed-member {A} number (y ∷ xs) (suc index) x e =
    let n : suc number + index ≡ number + suc index = omega arith in
    inr (subst (λ k. IsMember (indexed (suc number) xs) (k, x)) n (indexed-member (suc number) xs index x e))
