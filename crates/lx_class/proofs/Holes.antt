-- Which points no hole holds, as far as the holes are passed.
use Rattle.std.proofs.Common.{ℕ, ◌+◌, ◌<◌, ◌≤◌, List, [], ◌∷◌, length, take, sym, subst, ⊎_elim, arith, take_all}
use Rattle.std.proofs.lemmas.List.{take_more}
use Rattle.lx_class.specs.declared.ranges.Range.{Range}
use Rattle.lx_class.specs.Ranges.{InRanges, IsCanonical}
use Rattle.lx_class.specs.Bounds.{EndBefore}
use Rattle.lx_class.proofs.RangeLists.{InRanges-split, EndBefore-later, EndBefore-append, ended}
use Rattle.lx_class.proofs.Places.{range_at, from_here}

-- where all holes are passed
pub free_past : (holes : List Range) (place lo c : ℕ) → length holes ≤ place → EndBefore (take place holes) lo → lo ≤ c → ¬ InRanges holes c
free_past holes place lo c past passed le at =
    ended holes lo c (subst (λ l. EndBefore l lo) (take_all place holes past) passed) le at

module _ (holes : List Range) (place : ℕ) (lt : place < length holes) where
  -- before the next hole
  pub free_before : (lo c : ℕ) → IsCanonical holes → EndBefore (take place holes) lo → lo ≤ c → c < (range_at holes place).lo → ¬ InRanges holes c
  free_before lo c canonical passed le before at =
      ⊎_elim (λ front. ended (take place holes) lo c passed le front)
      (λ back. let from = from_here holes place lt c canonical back in omega arith) ((InRanges-split holes place c).0 at)

  pub passed_more : (lo m : ℕ) → EndBefore (take place holes) lo → lo ≤ m → (range_at holes place).hi < m → EndBefore (take (place + 1) holes) m
  passed_more lo m passed le ends =
      subst (λ l. EndBefore l m) (sym (take_more holes place _ lt))
      (EndBefore-append (take place holes) (range_at holes place ∷ []) m (EndBefore-later (take place holes) lo m le passed) (ends, tt))
