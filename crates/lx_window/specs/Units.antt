-- Units, and the bytes of which they are made.
use Rattle.std.specs.Prelude.{◌≡◌, ℕ, zero, suc, ◌+◌, ◌*◌, ◌/◌, ◌%◌, ◌⊎◌, List, [], ◌∷◌, length, take, drop}

-- so many bytes can be a unit
abbrev pub IsUnit : ℕ → Type 0
IsUnit unit = (unit ≡ 1) ⊎ ((unit ≡ 2) ⊎ (unit ≡ 4))

-- the bytes are a whole number of units
abbrev pub IsWhole : (unit : ℕ) → List ℕ → Type 0
IsWhole unit bytes = length bytes % unit ≡ 0

-- the number whose bytes these are, the least first
abbrev pub number_of : List ℕ → ℕ
number_of [] = 0
number_of (byte ∷ bytes) = byte + 256 * number_of bytes

-- so many units of so many bytes each
abbrev pub units_from : (unit count : ℕ) → List ℕ → List ℕ
units_from unit zero bytes = []
units_from unit (suc count) bytes = number_of (take unit bytes) ∷ units_from unit count (drop unit bytes)

-- the units of a stream, of so many bytes each
abbrev pub stream_units : (unit : ℕ) → List ℕ → List ℕ
stream_units unit bytes = units_from unit (length bytes / unit) bytes
