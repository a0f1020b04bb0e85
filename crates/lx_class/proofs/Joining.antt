-- What becomes of a canonical list whose last range is stretched, or that gets one more range.
use Rattle.std.proofs.Common.{◌≡◌, ℕ, ◌+◌, ◌-◌, ◌<◌, ◌≤◌, ◌⊎◌, ◌↔◌, List, [], ◌∷◌, ◌++◌, length, get_or, set, take, max, sym, ap, ◌∙◌, subst, inl, inr, ⊎_elim, arith, take_all}
use Rattle.std.proofs.lemmas.List.{take_more, take_more_set, length-set}
use Rattle.std.proofs.lemmas.Bool.{cases_lt}
use Rattle.lx_class.specs.declared.ranges.Range.{Range}
use Rattle.lx_class.specs.Ranges.{InRanges, IsCanonicalFrom, IsCanonical, IsUnion}
use Rattle.lx_class.specs.Bounds.{BeginBy, EndBefore}
use Rattle.lx_class.proofs.RangeLists.{InRanges-append, IsCanonicalFrom-back, BeginBy-append, BeginBy-parts}
use Rattle.lx_class.proofs.Unions.{grows_behind}

-- the same range with another end
abbrev pub stretched : Range → ℕ → Range
stretched range hi = record { lo = range.lo; hi = hi }

IsCanonicalFrom-stretched : (n : ℕ) (front : List Range) (last : Range) (hi : ℕ) → last.hi ≤ hi → hi ≤ 0x10FFFF →
    IsCanonicalFrom n (front ++ last ∷ []) → IsCanonicalFrom n (front ++ stretched last hi ∷ [])
IsCanonicalFrom-stretched n [] last hi le bound h = (h.0, omega arith, bound, tt)
IsCanonicalFrom-stretched n (x ∷ front) last hi le bound h =
    (h.0, h.1, h.2, IsCanonicalFrom-stretched (x.hi + 2) front last hi le bound h.3)

-- one more range, behind a gap
pub IsCanonicalFrom-push : (n : ℕ) (xs : List Range) (x : Range) → EndBefore xs (x.lo - 1) → n ≤ x.lo → x.lo ≤ x.hi → x.hi ≤ 0x10FFFF →
    IsCanonicalFrom n xs → IsCanonicalFrom n (xs ++ x ∷ [])
IsCanonicalFrom-push n [] x gap from ordered bound h = (from, ordered, bound, tt)
IsCanonicalFrom-push n (y ∷ xs) x gap from ordered bound h =
    (h.0, h.1, h.2, IsCanonicalFrom-push (y.hi + 2) xs x gap.1 (omega arith) ordered bound h.3)

EndBefore-last : (n : ℕ) (front : List Range) (last : Range) → IsCanonicalFrom n (front ++ last ∷ []) → EndBefore (front ++ last ∷ []) (last.hi + 1)
EndBefore-last n [] last h = (omega arith, tt)
EndBefore-last n (x ∷ front) last h =
    let back = IsCanonicalFrom-back (x.hi + 2) front (last ∷ []) h.3 in
    (omega arith, EndBefore-last (x.hi + 2) front last h.3)

-- two ranges that overlap or touch hold what their hull holds
hull : (last x : Range) (hi : ℕ) → hi ≡ max last.hi x.hi → last.lo ≤ x.lo → x.lo ≤ last.hi + 1 → x.lo ≤ x.hi →
    IsUnion (last ∷ []) (x ∷ []) (stretched last hi ∷ [])
hull last x hi is_max order touch some c = (
  λ at. ⊎_elim
      (λ here. ⊎_elim (λ lt. inr (inl (omega arith, omega arith))) (λ le. inl (inl (here.0, le))) (cases_lt last.hi c))
      (λ none. absurd none) at,
  λ at. ⊎_elim
      (λ old. ⊎_elim (λ here. inl (here.0, omega arith)) (λ none. absurd none) old)
      (λ new. ⊎_elim (λ here. inl (omega arith, omega arith)) (λ none. absurd none) new) at,
)

-- the range at the end of a list of this length
pub record IsLast (xs : List Range) (len : ℕ) (last : Range) : Type 0 where
  pub length_is : len ≡ length xs
  pub some : 0 < len
  pub last_is : last ≡ get_or xs (len - 1) last

module _ {xs : List Range} {len : ℕ} {last : Range} (at_end : IsLast xs len last) where
  front_last : xs ≡ take (len - 1) xs ++ last ∷ []
  front_last =
      sym (take_all (len - 1 + 1) xs (omega arith)) ∙ take_more xs (len - 1) last (omega arith)
      ∙ ap (λ (x : Range). take (len - 1) xs ++ x ∷ []) (sym at_end.last_is)

  front_set : (x : Range) → set xs (len - 1) x ≡ take (len - 1) xs ++ x ∷ []
  front_set x =
      sym (take_all (len - 1 + 1) (set xs (len - 1) x) (omega (arith, length-set xs (len - 1) x)))
      ∙ take_more_set xs (len - 1) x (omega arith)

  pub last_canonical : IsCanonical xs → IsCanonicalFrom 0 (last ∷ [])
  last_canonical h =
      IsCanonicalFrom-back 0 (take (len - 1) xs) (last ∷ []) (subst (λ l. IsCanonical l) front_last h)

  pub last_begins : (c : ℕ) → BeginBy xs c → last.lo ≤ c
  last_begins c h =
      ((BeginBy-parts (take (len - 1) xs) (last ∷ []) c (subst (λ l. BeginBy l c) front_last h)).1).0

  pub last_ends : IsCanonical xs → EndBefore xs (last.hi + 1)
  last_ends h =
      subst (λ l. EndBefore l (last.hi + 1)) (sym front_last)
      (EndBefore-last 0 (take (len - 1) xs) last (subst (λ l. IsCanonical l) front_last h))

  pub stretched_canonical : (hi : ℕ) → last.hi ≤ hi → hi ≤ 0x10FFFF → IsCanonical xs → IsCanonical (set xs (len - 1) (stretched last hi))
  stretched_canonical hi le bound h =
      subst (λ l. IsCanonical l) (sym (front_set (stretched last hi)))
      (IsCanonicalFrom-stretched 0 (take (len - 1) xs) last hi le bound (subst (λ l. IsCanonical l) front_last h))

  pub stretched_begin : (hi c : ℕ) → BeginBy xs c → BeginBy (set xs (len - 1) (stretched last hi)) c
  stretched_begin hi c h =
      let parts = BeginBy-parts (take (len - 1) xs) (last ∷ []) c (subst (λ l. BeginBy l c) front_last h) in
      subst (λ l. BeginBy l c) (sym (front_set (stretched last hi)))
      (BeginBy-append (take (len - 1) xs) (stretched last hi ∷ []) c parts.0 (parts.1.0, tt))

  pub stretched_points : (x : Range) (hi : ℕ) → hi ≡ max last.hi x.hi → last.lo ≤ x.lo → x.lo ≤ last.hi + 1 → x.lo ≤ x.hi →
      IsUnion xs (x ∷ []) (set xs (len - 1) (stretched last hi))
  stretched_points x hi is_max order touch ordered c =
      let front = take (len - 1) xs in
      let new : InRanges (set xs (len - 1) (stretched last hi)) c ↔ (InRanges front c ⊎ InRanges (stretched last hi ∷ []) c) =
      subst (λ l. InRanges l c ↔ (InRanges front c ⊎ InRanges (stretched last hi ∷ []) c)) (sym (front_set (stretched last hi)))
      (InRanges-append front (stretched last hi ∷ []) c) in
      let old : InRanges xs c ↔ (InRanges front c ⊎ InRanges (last ∷ []) c) =
      subst (λ l. InRanges l c ↔ (InRanges front c ⊎ InRanges (last ∷ []) c)) (sym front_last)
      (InRanges-append front (last ∷ []) c) in
      grows_behind new (hull last x hi is_max order touch ordered c) old
