-- The calls of an object in memory.
use Rattle.std.specs.Prelude.{ℕ, List}

-- which calls fail, by their numbers from 0, and the number of the next one
pub record CallPlan : Type 0 where
  pub failing : List ℕ
  pub next : ℕ
