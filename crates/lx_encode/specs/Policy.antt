-- What becomes of surrogates, and which points an encoding has.
use Rattle.std.specs.Prelude.{◌≡◌, ℕ, ◌<◌, ◌≤◌, ◌⊎◌, ◌↔◌, List, Result, Ok, Err}
use Rattle.lx_base.specs.Spelling.{greatest_point}
use Rattle.lx_base.specs.declared.settings.Enc.{Enc}
use Rattle.lx_base.specs.declared.settings.SurPolicy.{SurPolicy}
use Rattle.lx_base.specs.declared.settings.SurPolicy.TheVariants.{Ignore, Substitute, Fail}
use Rattle.lx_class.specs.Ranges.{InRanges}
use Rattle.lx_class.specs.declared.ranges.Range.{Range}
use Rattle.lx_encode.specs.declared.policies.PointStop.{PointStop}
use Rattle.lx_encode.specs.declared.policies.PointStop.TheVariants.{Memory, TooLarge, Surrogate}

-- a point kept back for UTF-16 (The Unicode Standard, section 3.8)
abbrev pub IsSurrogate : ℕ → Type 0
IsSurrogate point = (0xD800 ≤ point) × (point ≤ 0xDFFF)

-- the least point of the set from `from` to `to`
pub record IsLeastWithin (set : List Range) (from to point : ℕ) : Type 0 where
  pub member : InRanges set point
  pub from_first : from ≤ point
  pub to_last : point ≤ to
  pub least : (other : ℕ) → InRanges set other → from ≤ other → point ≤ other

-- no point of the set lies from `from` to `to`
abbrev pub NoneWithin : List Range → ℕ → ℕ → Type 0
NoneWithin set from to = (point : ℕ) → InRanges set point → from ≤ point → point ≤ to → ⊥

-- the set has a surrogate
abbrev pub HasSurrogate : List Range → Type 0
HasSurrogate set = (point : ℕ) × InRanges set point × IsSurrogate point

-- the points that the policy makes of a set: the same ones, or those that are no surrogates, and U+FFFD
-- where it replaces one
abbrev pub IsAfter : SurPolicy → List Range → ℕ → Type 0
IsAfter Ignore set point = InRanges set point
IsAfter Substitute set point = (InRanges set point × ¬ IsSurrogate point) ⊎ ((point ≡ 0xFFFD) × HasSurrogate set)
IsAfter Fail set point = InRanges set point

-- the points of the result are those that the policy makes of the set
abbrev pub IsPolicyOf : SurPolicy → List Range → List Range → Type 0
IsPolicyOf policy set points = (point : ℕ) → InRanges points point ↔ IsAfter policy set point

-- every point of the set is one of the encoding
abbrev pub FitsEncoding : Enc → List Range → Type 0
FitsEncoding enc set = (point : ℕ) → InRanges set point → point ≤ greatest_point enc

-- under a policy that refuses them the set has no surrogates
abbrev pub IsAllowed : SurPolicy → List Range → Type 0
IsAllowed policy set = policy ≡ Fail → NoneWithin set 0xD800 0xDFFF

-- when a set is taken, and when each refusal comes: first for the least point that the encoding does not
-- have, then for the least surrogate
abbrev pub IsApplied : Enc → SurPolicy → List Range → Result (List Range) PointStop → Type 0
IsApplied enc policy set (Ok points) = FitsEncoding enc set × IsAllowed policy set × IsPolicyOf policy set points
IsApplied enc policy set (Err Memory) = Unit {0}
IsApplied enc policy set (Err (TooLarge point)) =
    (greatest_point enc < point) × InRanges set point
    × ((other : ℕ) → InRanges set other → greatest_point enc < other → point ≤ other)
IsApplied enc policy set (Err (Surrogate point)) =
    FitsEncoding enc set × (policy ≡ Fail) × IsLeastWithin set 0xD800 0xDFFF point

-- a point of the encoding, and under other policies than taking them no surrogate
abbrev pub IsPoint : Enc → SurPolicy → ℕ → Type 0
IsPoint enc Ignore point = point ≤ greatest_point enc
IsPoint enc Substitute point = (point ≤ greatest_point enc) × ¬ IsSurrogate point
IsPoint enc Fail point = (point ≤ greatest_point enc) × ¬ IsSurrogate point
