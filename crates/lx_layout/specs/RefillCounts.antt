-- How many blocks are laid for the end of the input.
use Rattle.std.specs.Prelude.{ℕ, Bool, true, false, Option, Some, None}

-- where a unit stands there or not, a refill is tried or not, and what reads is stored or not
abbrev pub turn_count : (eof : Option ℕ) → (tries stores : Bool) → ℕ
turn_count None tries stores = 0
turn_count (Some unit) false stores = 1
turn_count (Some unit) true false = 2
turn_count (Some unit) true true = 3
