-- Counts of faults and of pauses.
use Rattle.std.specs.Prelude.{ℕ, ◌≤◌}

-- A count rose: it is greater than before, or it stands at the last value that a count can have.
abbrev pub Rose : ℕ → ℕ → Type 0
Rose before after = after ≤ before → 18446744073709551615 ≤ after
