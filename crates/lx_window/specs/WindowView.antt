-- A window, as contracts see it.
use Rattle.std.specs.Prelude.{ℕ, List}

-- The bytes of a unit; the offsets of the window's first unit, of the token's start and of the limit, counted in units from the stream's
-- beginning; the bytes from the first unit to the limit; and how many units fit.
pub record WindowView : Type 0 where
  pub unit : ℕ
  pub base : ℕ
  pub start : ℕ
  pub limit : ℕ
  pub bytes : List ℕ
  pub size : ℕ
