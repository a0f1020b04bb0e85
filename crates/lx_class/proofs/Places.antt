-- A canonical list about the range at one of its places.
use Rattle.std.proofs.Common.{◌≡◌, ℕ, ◌+◌, ◌<◌, ◌≤◌, ◌⊎◌, ◌↔◌, List, [], ◌∷◌, ◌++◌, length, get_or, take, drop, sym, ap, ◌∙◌, subst, inl, inr, ⊎_elim, arith}
use Rattle.std.proofs.lemmas.List.{take-append-drop, drop_more, take_more}
use Rattle.lx_class.specs.declared.ranges.Range.{Range}
use Rattle.lx_class.specs.Ranges.{InRanges, IsCanonicalFrom, IsCanonical}
use Rattle.lx_class.specs.Bounds.{BeginBy}
use Rattle.lx_class.proofs.RangeLists.{InRanges-append, IsCanonicalFrom-back, BeginBy-parts, begins_from, ends_before}

-- the range at a place, as code reads it
abbrev pub range_at : List Range → ℕ → Range
range_at xs i = get_or xs i (record { lo = 0; hi = 0 })

module _ (xs : List Range) (i : ℕ) (lt : i < length xs) where
  rest_at : drop i xs ≡ range_at xs i ∷ drop (i + 1) xs
  rest_at = drop_more xs i (record { lo = 0; hi = 0 }) lt

  parts_at : xs ≡ take i xs ++ range_at xs i ∷ drop (i + 1) xs
  parts_at = sym (take-append-drop i xs) ∙ ap (λ back. take i xs ++ back) rest_at

  -- the range and what comes after it
  pub canonical_at : IsCanonical xs → IsCanonicalFrom 0 (range_at xs i ∷ drop (i + 1) xs)
  canonical_at h =
      IsCanonicalFrom-back 0 (take i xs) (range_at xs i ∷ drop (i + 1) xs) (subst (λ l. IsCanonical l) parts_at h)

  pub begins_at : (c : ℕ) → BeginBy xs c → (range_at xs i).lo ≤ c
  begins_at c h =
      ((BeginBy-parts (take i xs) (range_at xs i ∷ drop (i + 1) xs) c (subst (λ l. BeginBy l c) parts_at h)).1).0

  pub found_at : (c : ℕ) → (range_at xs i).lo ≤ c → c ≤ (range_at xs i).hi → InRanges xs c
  found_at c from to =
      subst (λ l. InRanges l c) (sym parts_at)
      ((InRanges-append (take i xs) (range_at xs i ∷ drop (i + 1) xs) c).1 (inr (inl (from, to))))

  -- its first point is a point of what is left
  pub first_left : IsCanonical xs → InRanges (drop i xs) (range_at xs i).lo
  first_left h =
      let at : ((range_at xs i).lo ≤ (range_at xs i).lo) × ((range_at xs i).lo ≤ (range_at xs i).hi) =
      (omega arith, (canonical_at h).1) in
      subst (λ l. InRanges l (range_at xs i).lo) (sym rest_at) (inl at)

  -- no point of what is left lies before it
  pub from_here : (c : ℕ) → IsCanonical xs → InRanges (drop i xs) c → (range_at xs i).lo ≤ c
  from_here c h at =
      let parts = canonical_at h in
      begins_from (range_at xs i).lo (range_at xs i ∷ drop (i + 1) xs) c (omega arith, parts.1, parts.2, parts.3)
      (subst (λ l. InRanges l c) rest_at at)

  -- what comes after it lies past it
  pub past_here : (c : ℕ) → IsCanonical xs → InRanges (drop (i + 1) xs) c → (range_at xs i).hi < c
  past_here c h at =
      let le = begins_from ((range_at xs i).hi + 2) (drop (i + 1) xs) c (canonical_at h).3 at in omega arith

  pub still_left : (c : ℕ) → InRanges (drop (i + 1) xs) c → InRanges (drop i xs) c
  still_left c at = subst (λ l. InRanges l c) (sym rest_at) (inr at)

  pub InRanges-take_more : (c : ℕ) → InRanges (take (i + 1) xs) c ↔ (InRanges (take i xs) c ⊎ InRanges (range_at xs i ∷ []) c)
  InRanges-take_more c =
      subst (λ l. InRanges l c ↔ (InRanges (take i xs) c ⊎ InRanges (range_at xs i ∷ []) c)) (sym (take_more xs i (record { lo = 0; hi = 0 }) lt))
      (InRanges-append (take i xs) (range_at xs i ∷ []) c)

  -- a point past it is in no range up to it
  pub not_through : (c : ℕ) → IsCanonical xs → (range_at xs i).hi < c → InRanges (take (i + 1) xs) c → ⊥
  not_through c h after at =
      let parts = canonical_at h in
      ⊎_elim
      (λ front.
      let lt = ends_before 0 (take i xs) (range_at xs i) (drop (i + 1) xs) c (subst (λ l. IsCanonical l) parts_at h) front in
      omega arith)
      (λ here. omega arith) ((InRanges-take_more c).0 at)
