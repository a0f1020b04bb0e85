-- What a run reads, and how much of it at a time.
use Rattle.std.specs.Prelude.{ℕ, ◌-◌, List, length, min, Bool, ◌==◌, if◌then◌else◌}
use Rattle.lx_ccode.specs.Machine.{Refill, more, no_more}

-- the stream in units, how many of them fit the window, and how many a refill brings at most
pub record Reading : Type 0 where
  pub stream : List ℕ
  pub size : ℕ
  pub step : ℕ

-- over a window whose token starts here
module _ (reading : Reading) (start : ℕ) where
  -- the whole stream stands before this limit
  abbrev pub is_whole : (limit : ℕ) → Bool
  is_whole limit = limit == length reading.stream

  -- how many units a refill adds behind a limit: a step, what the window has room for, or all that is left
  abbrev pub added : (limit : ℕ) → ℕ
  added limit = min reading.step (min (reading.size - (limit - start)) (length reading.stream - limit))

  -- what a refill does
  abbrev pub refill_at : (limit : ℕ) → Refill
  refill_at limit = if is_whole limit then no_more else more 0 (added limit)
