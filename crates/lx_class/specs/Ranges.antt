-- Sets of code points, as lists of ranges.
use Rattle.std.specs.Prelude.{ℕ, ◌+◌, ◌≤◌, ◌⊎◌, ◌↔◌, List, [], ◌∷◌}
use Rattle.lx_class.specs.declared.ranges.Range.{Range}

-- the point lies in one of the ranges
abbrev pub InRanges : List Range → ℕ → Type 0
InRanges [] point = ⊥
InRanges (range ∷ ranges) point = ((range.lo ≤ point) × (point ≤ range.hi)) ⊎ InRanges ranges point

-- the same points lie in both lists
abbrev pub HaveSamePoints : List Range → List Range → Type 0
HaveSamePoints left right = (point : ℕ) → InRanges left point ↔ InRanges right point

-- the points of `both` are those that lie in one of two lists or in both
abbrev pub IsUnion : List Range → List Range → List Range → Type 0
IsUnion left right both = (point : ℕ) → InRanges both point ↔ (InRanges left point ⊎ InRanges right point)

-- the points of `rest` are those of the whole that lie in no hole
abbrev pub IsDifference : List Range → List Range → List Range → Type 0
IsDifference whole holes rest = (point : ℕ) → InRanges rest point ↔ (InRanges whole point × ¬ InRanges holes point)

-- the first range begins at `low` or later, each has a point and ends within Unicode, and between two
-- neighbours at least one point is missing
abbrev pub IsCanonicalFrom : ℕ → List Range → Type 0
IsCanonicalFrom low [] = Unit {0}
IsCanonicalFrom low (range ∷ ranges) =
    (low ≤ range.lo) × (range.lo ≤ range.hi) × (range.hi ≤ 0x10FFFF) × IsCanonicalFrom (range.hi + 2) ranges

-- sorted ranges of code points, with at least one point missing between two neighbours
abbrev pub IsCanonical : List Range → Type 0
IsCanonical ranges = IsCanonicalFrom 0 ranges
