-- The code points that an encoding has, and what a policy makes of surrogates.
use Rattle.std.specs.Prelude.{ℕ, suc, List, [], ◌∷◌, map, min, max, nat_le, ◌&&◌, Option, Some, None, if◌then◌else◌}
use Rattle.std.specs.Option.{option_map, option_or}
use Rattle.lx_base.specs.declared.places.Pos.{Pos}
use Rattle.lx_base.specs.declared.faults.Fault.{Fault}
use Rattle.lx_base.specs.declared.faults.Fault.TheVariants.{CodePoint, Surrogate}
use Rattle.lx_base.specs.declared.settings.Enc.{Enc}
use Rattle.lx_base.specs.declared.settings.SurPolicy.{SurPolicy}
use Rattle.lx_base.specs.declared.settings.SurPolicy.TheVariants.{Ignore, Substitute, Fail}
use Rattle.lx_base.specs.Spelling.{greatest_point}
use Rattle.lx_class.specs.declared.ranges.Range.{Range}

-- each point as a range of one
abbrev pub singles : List ℕ → List Range
singles points = map (λ point. record { lo = point; hi = point }) points

abbrev pub lesser : ℕ → Option ℕ → ℕ
lesser point None = point
lesser point (Some other) = min point other

-- the least point so far, and of a range what lies from a bound on
abbrev pub least_with : (low : ℕ) → Range → Option ℕ → Option ℕ
least_with low range least = if nat_le low range.hi then Some (lesser (max low range.lo) least) else least

-- the least point of the ranges that lies from a bound on
abbrev pub least_from : (low : ℕ) → List Range → Option ℕ
least_from low [] = None
least_from low (range ∷ ranges) = least_with low range (least_from low ranges)

-- the point, where it is not past a bound
abbrev pub up_to : (high : ℕ) → Option ℕ → Option ℕ
up_to high None = None
up_to high (Some point) = if nat_le point high then Some point else None

-- the fault of surrogates, which are refused under one policy: it names the least one
abbrev pub surrogate_fault : SurPolicy → Pos → List Range → Option Fault
surrogate_fault Ignore at ranges = None
surrogate_fault Substitute at ranges = None
surrogate_fault Fail at ranges = option_map (λ point. Surrogate at point) (up_to 0xDFFF (least_from 0xD800 ranges))

-- The fault of code points that stand in one token: a point that the encoding does not have, the least one; or a surrogate.
abbrev pub points_fault : Enc → SurPolicy → Pos → List Range → Option Fault
points_fault enc policy at ranges =
    option_or (option_map (λ point. CodePoint at point) (least_from (suc (greatest_point enc)) ranges))
    (surrogate_fault policy at ranges)

-- the point that a policy puts in the place of one: U+FFFD in that of a surrogate under one policy
abbrev pub replaced : SurPolicy → ℕ → ℕ
replaced Ignore point = point
replaced Substitute point = if nat_le 0xD800 point && nat_le point 0xDFFF then 0xFFFD else point
replaced Fail point = point
