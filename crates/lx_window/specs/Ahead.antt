-- What a source has not given yet, and how it gives it.
use Rattle.std.specs.Prelude.{ℕ, Bool, false, List, Option, None, Some, IfSome}
use Rattle.std.specs.Option.{option_map}

-- How many units a part has at most; whether the scanner is left before each part, and whether that is what comes next.
pub record Parts : Type 0 where
  pub step : ℕ
  pub leaves : Bool
  pub leaves_next : Bool

-- The bytes that were not given yet, and the parts in which they are given, where these are told.
pub record Ahead : Type 0 where
  pub bytes : List ℕ
  pub parts : Option Parts

-- the bytes ahead, where they are told
abbrev pub bytes_of : Option Ahead → Option (List ℕ)
bytes_of ahead = option_map (λ told. told.bytes) ahead

-- the parts, where they are told
abbrev pub parts_of : Option Ahead → Option Parts
parts_of None = None
parts_of (Some told) = told.parts

-- where the parts are told, this holds of the bytes ahead and of them
abbrev pub IfParts : Option Ahead → (List ℕ → Parts → Type 0) → Type 0
IfParts ahead holds = IfSome ahead (λ told. IfSome told.parts (holds told.bytes))

-- the parts once one was given: the scanner is left next, if it is left before each
abbrev pub after_part : Parts → Parts
after_part parts = record parts { leaves_next = parts.leaves }

-- what is ahead once the scanner was left
abbrev pub after_leave : Ahead → Ahead
after_leave told = record told { parts = option_map {T = Parts} (λ parts. record parts { leaves_next = false }) told.parts }
