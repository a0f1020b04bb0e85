-- Points that do not lie past Unicode are surely those of some sorted ranges.
use Rattle.std.proofs.Common.{◌≡◌, ℕ, zero, suc, ◌+◌, ◌≤◌, ◌⊎◌, ◌↔◌, inl, inr, ⊎_elim, List, [], ◌∷◌, subst, sym, arith}
use Rattle.std.proofs.lemmas.Bool.{cases_lt}
use Rattle.lx_class.specs.Ranges.{InRanges, IsCanonicalFrom}
use Rattle.lx_class.specs.declared.ranges.Range.{Range}
use Rattle.lx_class.proofs.RangeLists.{IsCanonicalFrom-earlier}
use Rattle.lx_exprs.specs.Meanings.{IsSetOf}
use Rattle.lx_exprs.proofs.Classical.{Surely, surely, and_then, excluded_middle}

-- one of two numbers is the other one, or the greater
same_or_above : (low point : ℕ) → low ≤ point → (point ≡ low) ⊎ (suc low ≤ point)
same_or_above low point le = ⊎_elim (λ less. inr less) (λ most. inl (omega arith)) (cases_lt low point)

-- ranges with one point more, which lies before them
abbrev Adds : (low : ℕ) → (set more : List Range) → Type 0
Adds low set more = IsCanonicalFrom low more × ((point : ℕ) → InRanges more point ↔ ((point ≡ low) ⊎ InRanges set point))

apart : (low : ℕ) (set : List Range) → low ≤ 0x10FFFF → IsCanonicalFrom (low + 2) set → Adds low set (record { lo = low; hi = low } ∷ set)
apart low set within canonical = (
  (omega arith, omega arith, within, canonical),
  λ point. (
    ⊎_elim (λ here. inl (omega arith)) (λ later. inr later),
    ⊎_elim (λ same. inl (omega arith, omega arith)) (λ later. inr later),
  ),
)

touching : (low : ℕ) (range : Range) (set : List Range) → range.lo ≡ suc low → range.lo ≤ range.hi → range.hi ≤ 0x10FFFF
    → IsCanonicalFrom (range.hi + 2) set → Adds low (range ∷ set) (record { lo = low; hi = range.hi } ∷ set)
touching low range set next order within canonical = (
  (omega arith, omega arith, within, canonical),
  λ point. (
    ⊎_elim
        (λ here. ⊎_elim (λ same. inl same) (λ above. inr (inl (omega arith, here.1))) (same_or_above low point here.0))
        (λ later. inr (inr later)),
    ⊎_elim (λ same. inl (omega arith, omega arith)) (⊎_elim (λ here. inl (omega arith, here.1)) (λ later. inr later)),
  ),
)

added : (low : ℕ) (set : List Range) → low ≤ 0x10FFFF → IsCanonicalFrom (suc low) set → (more : List Range) × Adds low set more
added low [] within canonical = (record { lo = low; hi = low } ∷ [], apart low [] within tt)
added low (range ∷ set) within canonical =
    ⊎_elim
    (λ same. (record { lo = low; hi = range.hi } ∷ set, touching low range set same canonical.1 canonical.2 canonical.3))
    (λ (above : suc (suc low) ≤ range.lo). (record { lo = low; hi = low } ∷ range ∷ set, apart low (range ∷ set) within (omega arith, canonical.1, canonical.2, canonical.3)))
    (same_or_above (suc low) range.lo canonical.0)

module _ (Has : ℕ → Type 0) (bounded : (point : ℕ) → Has point → point ≤ 0x10FFFF) where
  -- the ranges of the points from a number on
  record HasFrom (low : ℕ) : Type 0 where
    set : List Range
    canonical : IsCanonicalFrom low set
    points : (point : ℕ) → InRanges set point ↔ (Has point × (low ≤ point))

  without_point : (low : ℕ) → HasFrom (suc low) → (Has low → ⊥) → HasFrom low
  without_point low above none = record {
    set = above.set;
    canonical = IsCanonicalFrom-earlier (suc low) low above.set (omega arith) above.canonical;
    points = λ point. (
      λ is. let has = (above.points point).0 is in let le = has.1 in (has.0, omega (arith, le)),
      λ has. ⊎_elim
          (λ same. absurd (none (subst Has same has.0)))
          (λ later. (above.points point).1 (has.0, later)) (same_or_above low point has.1),
    );
  }

  with_point : (low : ℕ) → HasFrom (suc low) → Has low → HasFrom low
  with_point low above here =
      let more = added low above.set (bounded low here) above.canonical in record {
        set = more.0;
        canonical = more.1.0;
        points = λ point. (
          λ is. ⊎_elim
              (λ same. (subst Has (sym same) here, omega arith))
              (λ later. let has = (above.points point).0 later in let le = has.1 in (has.0, omega (arith, le)))
              ((more.1.1 point).0 is),
          λ has. (more.1.1 point).1 (⊎_elim
              (λ same. inl same)
              (λ later. inr ((above.points point).1 (has.0, later))) (same_or_above low point has.1)),
        );
      }

  none_above : (low : ℕ) → low ≡ 0x110000 → HasFrom low
  none_above low top = record {
    set = [];
    canonical = tt;
    points = λ point. (
      λ none. absurd none,
      λ has. let le = has.1 in let most = bounded point has.0 in absurd (omega (arith, top, le, most)),
    );
  }

  all_of : HasFrom 0 → (set : List Range) × IsSetOf Has set
  all_of all = (
    all.set,
    record {
      canonical = all.canonical;
      points = λ point. (λ is. ((all.points point).0 is).0, λ has. (all.points point).1 (has, omega arith));
    },
  )

  from_below : (count low : ℕ) → count + low ≡ 0x110000 → Surely (HasFrom low)
  from_below zero low top = surely (none_above low (omega (arith, top)))
  from_below (suc count) low top =
      and_then (from_below count (suc low) (omega (arith, top)))
      (λ above. and_then (excluded_middle (Has low)) (λ here. surely (⊎_elim (with_point low above) (without_point low above) here)))

  pub set_exists : Surely ((set : List Range) × IsSetOf Has set)
  set_exists = and_then (from_below 0x110000 0 (omega arith)) (λ all. surely (all_of all))

  -- and where each point is decided, they are at hand
  module _ (decide : (point : ℕ) → Has point ⊎ (Has point → ⊥)) where
    decided_below : (count low : ℕ) → count + low ≡ 0x110000 → HasFrom low
    decided_below zero low top = none_above low (omega (arith, top))
    decided_below (suc count) low top =
        ⊎_elim (with_point low (decided_below count (suc low) (omega (arith, top))))
        (without_point low (decided_below count (suc low) (omega (arith, top)))) (decide low)

    pub decided_set : (set : List Range) × IsSetOf Has set
    decided_set = all_of (decided_below 0x110000 0 (omega arith))

-- a point lies in ranges, or it does not
pub decide_in : (ranges : List Range) (point : ℕ) → InRanges ranges point ⊎ (InRanges ranges point → ⊥)
decide_in [] point = inr (λ none. none)
decide_in (range ∷ ranges) point =
    ⊎_elim (λ later. inl (inr later))
    (λ no. ⊎_elim
    (λ below. inr (λ is. ⊎_elim (λ here. let le = here.0 in absurd (omega (arith, below, le))) no is))
    (λ from. ⊎_elim
    (λ above. inr (λ is. ⊎_elim (λ here. let le = here.1 in absurd (omega (arith, above, le))) no is))
    (λ to. inl (inl (from, to))) (cases_lt range.hi point))
    (cases_lt point range.lo))
    (decide_in ranges point)

-- points of sorted ranges do not lie past Unicode
pub canonical_bounded : (low : ℕ) (ranges : List Range) (point : ℕ) → IsCanonicalFrom low ranges → InRanges ranges point → point ≤ 0x10FFFF
canonical_bounded low [] point canonical is = absurd is
canonical_bounded low (range ∷ ranges) point canonical (inl is) = let to = is.1 in let most = canonical.2 in omega (arith, to, most)
canonical_bounded low (range ∷ ranges) point canonical (inr is) = canonical_bounded (range.hi + 2) ranges point canonical.3 is
