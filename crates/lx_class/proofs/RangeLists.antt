-- Lists of ranges end to end, and their parts: which points they have, where they begin and end, what is canonical.
use Rattle.std.proofs.Common.{◌≡◌, ℕ, ◌+◌, ◌-◌, ◌<◌, ◌≤◌, ◌⊎◌, ◌↔◌, List, [], ◌∷◌, ◌++◌, length, take, drop, sym, subst, inl, inr, ⊎_elim, arith, take_all}
use Rattle.std.proofs.lemmas.List.{take-append-drop, length-drop}
use Rattle.lx_class.specs.declared.ranges.Range.{Range}
use Rattle.lx_class.specs.Ranges.{InRanges, IsCanonicalFrom, IsCanonical}
use Rattle.lx_class.specs.Bounds.{BeginBy, EndBefore}

pub InRanges-append : (xs ys : List Range) (c : ℕ) → InRanges (xs ++ ys) c ↔ (InRanges xs c ⊎ InRanges ys c)
InRanges-append [] ys c = (λ at. inr at, λ at. ⊎_elim (λ none. absurd none) (λ back. back) at)
InRanges-append (x ∷ xs) ys c =
    let rest = InRanges-append xs ys c in (
      λ at. ⊎_elim (λ here. inl (inl here)) (λ later. ⊎_elim (λ front. inl (inr front)) (λ back. inr back) (rest.0 later)) at,
      λ at. ⊎_elim (λ front. ⊎_elim (λ here. inl here) (λ later. inr (rest.1 (inl later))) front) (λ back. inr (rest.1 (inr back))) at,
    )

-- the parts before a place and from there on
pub InRanges-split : (xs : List Range) (i c : ℕ) → InRanges xs c ↔ (InRanges (take i xs) c ⊎ InRanges (drop i xs) c)
InRanges-split xs i c =
    subst (λ l. InRanges l c ↔ (InRanges (take i xs) c ⊎ InRanges (drop i xs) c)) (take-append-drop i xs)
    (InRanges-append (take i xs) (drop i xs) c)

pub IsCanonicalFrom-earlier : (m n : ℕ) (xs : List Range) → n ≤ m → IsCanonicalFrom m xs → IsCanonicalFrom n xs
IsCanonicalFrom-earlier m n [] le h = tt
IsCanonicalFrom-earlier m n (x ∷ xs) le h = (omega arith, h.1, h.2, h.3)

-- no point lies before the first range
pub begins_from : (n : ℕ) (xs : List Range) (c : ℕ) → IsCanonicalFrom n xs → InRanges xs c → n ≤ c
begins_from n [] c h at = absurd at
begins_from n (x ∷ xs) c h at =
    ⊎_elim (λ here. omega arith) (λ later. let le = begins_from (x.hi + 2) xs c h.3 later in omega arith) at

pub IsCanonicalFrom-back : (n : ℕ) (xs ys : List Range) → IsCanonicalFrom n (xs ++ ys) → IsCanonicalFrom n ys
IsCanonicalFrom-back n [] ys h = h
IsCanonicalFrom-back n (x ∷ xs) ys h =
    IsCanonicalFrom-back n xs ys (IsCanonicalFrom-earlier (x.hi + 2) n (xs ++ ys) (omega arith) h.3)

pub IsCanonical-drop : (xs : List Range) (i : ℕ) → IsCanonical xs → IsCanonical (drop i xs)
IsCanonical-drop xs i h =
    IsCanonicalFrom-back 0 (take i xs) (drop i xs) (subst (λ l. IsCanonical l) (sym (take-append-drop i xs)) h)

-- what stands before a range lies before it
pub ends_before : (n : ℕ) (xs : List Range) (x : Range) (ys : List Range) (c : ℕ) → IsCanonicalFrom n (xs ++ x ∷ ys) → InRanges xs c → c < x.lo
ends_before n [] x ys c h at = absurd at
ends_before n (y ∷ xs) x ys c h at =
    let back = IsCanonicalFrom-back (y.hi + 2) xs (x ∷ ys) h.3 in
    ⊎_elim (λ here. omega arith) (λ later. ends_before (y.hi + 2) xs x ys c h.3 later) at

pub BeginBy-later : (xs : List Range) (m n : ℕ) → m ≤ n → BeginBy xs m → BeginBy xs n
BeginBy-later [] m n le h = tt
BeginBy-later (x ∷ xs) m n le h = (omega arith, BeginBy-later xs m n le h.1)

pub BeginBy-append : (xs ys : List Range) (n : ℕ) → BeginBy xs n → BeginBy ys n → BeginBy (xs ++ ys) n
BeginBy-append [] ys n hx hy = hy
BeginBy-append (x ∷ xs) ys n hx hy = (hx.0, BeginBy-append xs ys n hx.1 hy)

pub BeginBy-parts : (xs ys : List Range) (n : ℕ) → BeginBy (xs ++ ys) n → BeginBy xs n × BeginBy ys n
BeginBy-parts [] ys n h = (tt, h)
BeginBy-parts (x ∷ xs) ys n h = let rest = BeginBy-parts xs ys n h.1 in ((h.0, rest.0), rest.1)

pub EndBefore-later : (xs : List Range) (m n : ℕ) → m ≤ n → EndBefore xs m → EndBefore xs n
EndBefore-later [] m n le h = tt
EndBefore-later (x ∷ xs) m n le h = (omega arith, EndBefore-later xs m n le h.1)

pub EndBefore-append : (xs ys : List Range) (n : ℕ) → EndBefore xs n → EndBefore ys n → EndBefore (xs ++ ys) n
EndBefore-append [] ys n hx hy = hy
EndBefore-append (x ∷ xs) ys n hx hy = (hx.0, EndBefore-append xs ys n hx.1 hy)

-- ranges that end before a point do not hold it
pub ended : (xs : List Range) (n c : ℕ) → EndBefore xs n → n ≤ c → InRanges xs c → ⊥
ended [] n c h le at = at
ended (x ∷ xs) n c h le at = ⊎_elim (λ here. omega arith) (λ later. ended xs n c h.1 le later) at

-- what `&xs[i..]` holds
pub suffix : (xs : List Range) (i : ℕ) → take (length xs - i) (drop i xs) ≡ drop i xs
suffix xs i = take_all (length xs - i) (drop i xs) (omega (arith, length-drop i xs))
