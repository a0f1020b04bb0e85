-- Where faults stand.
use Rattle.std.specs.Prelude.{◌≡◌, ℕ, Option, Some, None}
use Rattle.lx_base.specs.Message.{place_of}
use Rattle.lx_base.specs.declared.faults.Fault.{Fault}
use Rattle.lx_base.specs.declared.places.Pos.{Pos}

-- there is a place, and it is one of this file
abbrev pub IsPlaceIn : (file : ℕ) → Option Pos → Type 0
IsPlaceIn file None = ⊥
IsPlaceIn file (Some place) = place.file ≡ file

-- the fault stands in this file
abbrev pub StandsIn : (file : ℕ) → Fault → Type 0
StandsIn file fault = IsPlaceIn file (place_of fault)
