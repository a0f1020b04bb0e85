-- The least bound of some numbers.
use Rattle.std.specs.Prelude.{◌≡◌, ℕ, ◌+◌, ◌<◌, List, length, slice_index}

-- one more than the greatest of the numbers, or 0 where there is none
pub record IsBoundOf (numbers : List ℕ) (bound : ℕ) : Type 0 where
  pub above : (place : ℕ) → place < length numbers → slice_index numbers place < bound
  pub reached : 0 < bound → (place : ℕ) × (place < length numbers) × (slice_index numbers place + 1 ≡ bound)
