-- The points of a set as runs that lead to residual 0.
use Rattle.std.proofs.Common.{◌≡◌, ℕ, ◌+◌, ◌≤◌, ◌↔◌, List, [], ◌∷◌, ◌++◌, refl, ap, inl, inr, ⊎_elim, arith}
use Rattle.lx_class.specs.declared.ranges.Range.{Range}
use Rattle.lx_class.specs.Ranges.{InRanges, IsCanonicalFrom}
use Rattle.lx_encode.specs.declared.runs.Run.{Run}
use Rattle.lx_encode.specs.Runs.{AreSortedFrom, LeadsTo}

-- the range as a run to residual 0
abbrev pub ended_run : Range → Run
ended_run range = record { lo = range.lo; hi = range.hi; to = 0 }

-- each range as a run to residual 0
abbrev pub ended_runs : List Range → List Run
ended_runs [] = []
ended_runs (range ∷ ranges) = ended_run range ∷ ended_runs ranges

pub LeadsTo-ended_runs : (ranges : List Range) (number target : ℕ) → LeadsTo (ended_runs ranges) number target ↔ (InRanges ranges number × (0 ≡ target))
LeadsTo-ended_runs [] number target = (λ at. absurd at, λ at. absurd at.0)
LeadsTo-ended_runs (range ∷ ranges) number target =
    let rest = LeadsTo-ended_runs ranges number target in (
      λ at. ⊎_elim (λ here. (inl here.0, here.1)) (λ later. (inr (rest.0 later).0, (rest.0 later).1)) at,
      λ at. ⊎_elim (λ here. inl (here, at.1)) (λ later. inr (rest.1 (later, at.1))) at.0,
    )

pub AreSorted-ended_runs : (low low' : ℕ) (ranges : List Range) → low' ≤ low → IsCanonicalFrom low ranges → AreSortedFrom low' (ended_runs ranges)
AreSorted-ended_runs low low' [] le canonical = tt
AreSorted-ended_runs low low' (range ∷ ranges) le canonical =
    (omega arith, canonical.1, canonical.2, AreSorted-ended_runs (range.hi + 2) (range.hi + 1) ranges (omega arith) canonical.3)

pub ended_runs-append : (front : List Range) (range : Range) → ended_runs (front ++ range ∷ []) ≡ ended_runs front ++ ended_run range ∷ []
ended_runs-append [] range = refl
ended_runs-append (x ∷ front) range = ap (λ l. ended_run x ∷ l) (ended_runs-append front range)
