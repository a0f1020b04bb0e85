-- What a refill does with its room, by what is ahead.
use Rattle.std.specs.Prelude.{◌≡◌, ℕ, ◌*◌, ◌<◌, ◌≤◌, min, Bool, true, false, List, [], ◌++◌, length, take, drop, Option, IfSome}
use Rattle.std.specs.Option.{option_map}
use Rattle.lx_window.specs.Ahead.{Ahead, IfParts, bytes_of, parts_of, after_part, after_leave}
use Rattle.lx_window.specs.Units.{IsWhole}
use Rattle.lx_window.specs.declared.refills.Fill.{Fill}
use Rattle.lx_window.specs.declared.refills.Fill.TheVariants.{More, NoMore, Leave}

-- a positive whole number of units
pub record IsRoom (unit : ℕ) (room : List ℕ) : Type 0 where
  pub some : 0 < length room
  pub whole : IsWhole unit room

-- these bytes, and then what is ahead, where that is told
abbrev pub bytes_then : List ℕ → Option Ahead → Option (List ℕ)
bytes_then bytes ahead = option_map (λ told. bytes ++ told.bytes) ahead

-- nothing is ahead, where that is told
abbrev pub IsSpent : Option Ahead → Type 0
IsSpent ahead = IfSome ahead (λ told. told.bytes ≡ [])

-- the scanner is to be left next, or not, where the parts are told
abbrev pub LeavesNext : Option Ahead → Bool → Type 0
LeavesNext ahead leaves = IfParts ahead (λ bytes parts. parts.leaves_next ≡ leaves)

-- these bytes were ahead, and were given: a positive whole number of units
pub record Gives (unit : ℕ) (ahead ahead' : Option Ahead) (bytes : List ℕ) : Type 0 where
  pub some : 0 < length bytes
  pub whole : IsWhole unit bytes
  pub given : bytes_of ahead ≡ bytes_then bytes ahead'

-- so many bytes are a part for a room of so many: as many units as a part has at most, as the room takes, or as are ahead
pub record IsPart (unit room : ℕ) (ahead ahead' : Option Ahead) (count : ℕ) : Type 0 where
  pub stays : LeavesNext ahead false
  pub count_is : IfParts ahead (λ bytes parts. count ≡ min (unit * parts.step) (min room (length bytes)))
  pub after : parts_of ahead' ≡ option_map after_part (parts_of ahead)

-- the scanner was to be left, and is not to be left again before the next part
pub record Pauses (ahead ahead' : Option Ahead) : Type 0 where
  pub leaves : LeavesNext ahead true
  pub after : ahead' ≡ option_map after_leave ahead

-- the room begins with so many bytes that were ahead, and is behind them as it was
pub record Adds (unit : ℕ) (ahead ahead' : Option Ahead) (room room' : List ℕ) (count : ℕ) : Type 0 where
  pub within : count ≤ length room
  pub gives : Gives unit ahead ahead' (take count room')
  pub part : IsPart unit (length room) ahead ahead' count
  pub rest : drop count room' ≡ drop count room

-- what each answer says of the room, and of what is ahead
abbrev pub Fills : (unit : ℕ) (ahead ahead' : Option Ahead) (room room' : List ℕ) → Fill → Type 0
Fills unit ahead ahead' room room' (More count) = Adds unit ahead ahead' room room' count
Fills unit ahead ahead' room room' NoMore = IsSpent ahead × (ahead' ≡ ahead) × (room' ≡ room) × LeavesNext ahead false
Fills unit ahead ahead' room room' Leave = Pauses ahead ahead' × (room' ≡ room)
