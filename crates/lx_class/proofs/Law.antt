-- Canonical lists with the same points are the same list.
use Rattle.std.proofs.Common.{◌≡◌, ℕ, ◌+◌, ◌≤◌, List, [], ◌∷◌, refl, sym, ap₂, inl, inr, ⊎_elim, arith}
use Rattle.std.proofs.lemmas.Bool.{cases_lt}
use Rattle.lx_class.specs.declared.ranges.Range.{Range}
use Rattle.lx_class.specs.Ranges.{InRanges, IsCanonicalFrom}
use Rattle.lx_class.proofs.RangeLists.{begins_from}

-- the points of one list lie in the other too
abbrev Within : List Range → List Range → Type 0
Within xs ys = (c : ℕ) → InRanges xs c → InRanges ys c

-- ranges within others begin no earlier, and of two that begin together the first ends no later
first_within : (m n : ℕ) (x y : Range) (xs ys : List Range) → IsCanonicalFrom m (x ∷ xs) → IsCanonicalFrom n (y ∷ ys) → Within (x ∷ xs) (y ∷ ys) →
    (y.lo ≤ x.lo) × (x.lo ≡ y.lo → x.hi ≤ y.hi)
first_within m n x y xs ys hx hy within =
    let at_lo : (x.lo ≤ x.lo) × (x.lo ≤ x.hi) = (omega arith, hx.1) in (
      begins_from y.lo (y ∷ ys) x.lo (omega arith, hy.1, hy.2, hy.3) (within x.lo (inl at_lo)),
      λ same. ⊎_elim
          (λ lt.
          let at : (x.lo ≤ y.hi + 1) × (y.hi + 1 ≤ x.hi) = (omega arith, omega arith) in
          ⊎_elim (λ here. omega arith) (λ later. let le = begins_from (y.hi + 2) ys (y.hi + 1) hy.3 later in omega arith) (within (y.hi + 1) (inl at)))
          (λ le. le) (cases_lt y.hi x.hi),
    )

-- past ranges that begin and end together
rest_within : (x y : Range) (xs ys : List Range) → x.hi ≡ y.hi → IsCanonicalFrom (x.hi + 2) xs → Within (x ∷ xs) (y ∷ ys) → Within xs ys
rest_within x y xs ys same hx within c at =
    let le = begins_from (x.hi + 2) xs c hx at in
    ⊎_elim (λ here. absurd (omega arith)) (λ later. later) (within c (inr at))

pub same_ranges : (m n : ℕ) (xs ys : List Range) → IsCanonicalFrom m xs → IsCanonicalFrom n ys → Within xs ys → Within ys xs → xs ≡ ys
same_ranges m n [] [] hx hy there back = refl
same_ranges m n [] (y ∷ ys) hx hy there back =
    let at : (y.lo ≤ y.lo) × (y.lo ≤ y.hi) = (omega arith, hy.1) in absurd (back y.lo (inl at))
same_ranges m n (x ∷ xs) [] hx hy there back =
    let at : (x.lo ≤ x.lo) × (x.lo ≤ x.hi) = (omega arith, hx.1) in absurd (there x.lo (inl at))
same_ranges m n (x ∷ xs) (y ∷ ys) hx hy there back =
    let one = first_within m n x y xs ys hx hy there in
    let other = first_within n m y x ys xs hy hx back in
    let los : x.lo ≡ y.lo = omega (arith, one.0, other.0) in
    let his : x.hi ≡ y.hi = omega (arith, one.1 los, other.1 (sym los)) in
    ap₂ ◌∷◌ (ap₂ (λ a b. record { lo = a; hi = b }) los his)
    (same_ranges (x.hi + 2) (y.hi + 2) xs ys hx.3 hy.3
    (rest_within x y xs ys his hx.3 there) (rest_within y x ys xs (sym his) hy.3 back))
