-- What a window has, and what each call leaves of it.
use Rattle.std.specs.Prelude.{◌≡◌, ℕ, ◌+◌, ◌-◌, ◌*◌, ◌/◌, ◌≤◌, false, List, [], ◌++◌, length, take, drop, Option, IsSomeAnd}
use Rattle.lx_window.specs.Ahead.{Ahead}
use Rattle.lx_window.specs.Units.{IsUnit, stream_units}
use Rattle.lx_window.specs.Refilling.{IsSpent, LeavesNext, Gives, IsPart, Pauses}
use Rattle.lx_window.specs.WindowView.{WindowView}
use Rattle.lx_window.specs.declared.refills.Fill.{Fill}
use Rattle.lx_window.specs.declared.refills.Fill.TheVariants.{More, NoMore, Leave}

-- what is true of every window
pub record IsFormed (window : WindowView) : Type 0 where
  pub unit : IsUnit window.unit
  pub begins : window.base ≤ window.start
  pub ends : window.start ≤ window.limit
  pub fits : window.limit ≤ window.base + window.size
  pub length_bytes : length window.bytes ≡ window.unit * (window.limit - window.base)
  pub early : window.start ≤ 0x4000_0000_0000_0000

-- a window with nothing in it, in a buffer of so many bytes
abbrev pub empty_window : (unit base buffer : ℕ) → WindowView
empty_window unit base buffer = record { unit = unit; base = base; start = base; limit = base; bytes = []; size = buffer / unit }

-- the units of a window
abbrev pub window_units : WindowView → List ℕ
window_units window = stream_units window.unit window.bytes

-- how many bytes a window has before an offset
abbrev pub bytes_before : WindowView → ℕ → ℕ
bytes_before window at = window.unit * (at - window.base)

-- how many bytes are free behind the limit
abbrev pub free_bytes : WindowView → ℕ
free_bytes window = window.unit * (window.size - (window.limit - window.base))

-- the bytes of a window from one offset to another
abbrev pub bytes_between : WindowView → (from to : ℕ) → List ℕ
bytes_between window from to = take (window.unit * (to - from)) (drop (bytes_before window from) window.bytes)

-- the token's start moved
abbrev pub begun : WindowView → ℕ → WindowView
begun window at = record window { start = at }

-- what stood before the token's start was dropped
abbrev pub slid : WindowView → WindowView
slid window = record window { base = window.start; bytes = drop (bytes_before window window.start) window.bytes }

-- bytes were added behind the limit
abbrev pub grown : WindowView → List ℕ → WindowView
grown window bytes = record window { limit = window.limit + length bytes / window.unit; bytes = window.bytes ++ bytes }

-- the token's start stays where it is, and the window its length
pub record KeepsStart (window window' : WindowView) : Type 0 where
  pub same_unit : window'.unit ≡ window.unit
  pub same_start : window'.start ≡ window.start
  pub same_size : window'.size ≡ window.size

-- so many bytes that were ahead were added behind the limit
pub record Grows (ahead ahead' : Option Ahead) (window window' : WindowView) (count : ℕ) : Type 0 where
  pub bytes : List ℕ
  pub length_bytes : length bytes ≡ count
  pub gives : Gives window.unit ahead ahead' bytes
  pub part : IsPart window.unit (free_bytes window) ahead ahead' count
  pub window_grown : window' ≡ grown window bytes

-- what each answer to a refill says of the window, and of what is ahead
abbrev pub Refills : (ahead ahead' : Option Ahead) (window window' : WindowView) → Fill → Type 0
Refills ahead ahead' window window' (More count) = Grows ahead ahead' (slid window) window' count
Refills ahead ahead' window window' NoMore = IsSpent ahead × (ahead' ≡ ahead) × (window' ≡ slid window) × LeavesNext ahead false
Refills ahead ahead' window window' Leave = Pauses ahead ahead' × (window' ≡ slid window)

-- each unit of the window is the stream's at its offset
pub record IsWindowOf (stream : List ℕ) (window : WindowView) : Type 0 where
  pub begins : window.base ≤ window.start
  pub ends : window.start ≤ window.limit
  pub within : window.limit ≤ length stream
  pub units : window_units window ≡ take (window.limit - window.base) (drop window.base stream)

-- the stream is what the window has up to its limit, and then what is ahead of its source
pub record IsFedBy (stream : List ℕ) (window : WindowView) (ahead : Option Ahead) : Type 0 where
  pub holds : IsWindowOf stream window
  pub goes_on : IsSomeAnd ahead (λ told. drop window.limit stream ≡ stream_units window.unit told.bytes)
