-- Where a list of ranges begins and ends.
use Rattle.std.specs.Prelude.{ℕ, ◌<◌, ◌≤◌, List, [], ◌∷◌}
use Rattle.lx_class.specs.declared.ranges.Range.{Range}

-- each of the ranges begins at the point or before it
abbrev pub BeginBy : List Range → ℕ → Type 0
BeginBy [] point = Unit {0}
BeginBy (range ∷ ranges) point = (range.lo ≤ point) × BeginBy ranges point

-- each of the ranges ends before the point
abbrev pub EndBefore : List Range → ℕ → Type 0
EndBefore [] point = Unit {0}
EndBefore (range ∷ ranges) point = (range.hi < point) × EndBefore ranges point
