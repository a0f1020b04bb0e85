-- Pairs of numbers that were noted.
use Rattle.std.specs.Prelude.{◌≡◌, ◌⊎◌, ℕ, ◌+◌, ◌*◌, ◌<◌, List, Bool, true, false, Contains, slice_index_or}
use Rattle.lx_regs.specs.declared.joined_pairs.JoinedPairs.{JoinedPairs}

-- how many places the row of a number has
abbrev pub row_length : ℕ
row_length = 2048

-- whether a place is marked
abbrev pub is_marked_at : List Bool → (place : ℕ) → Bool
is_marked_at marks place = slice_index_or marks place false

-- the pair's place in the row of its first number is marked, or the pair is in the set
abbrev pub IsNoted : JoinedPairs → (number other : ℕ) → Type 0
IsNoted pairs number other =
    ((other < row_length) × (is_marked_at pairs.marks.items (number * row_length + other) ≡ true)) ⊎ Contains pairs.others.keys (number, other)
