-- The runs of units that are left where first questions have decided on some.
use Rattle.std.specs.Prelude.{ℕ, zero, suc, ◌-◌, ◌&&◌, Bool, true, false, List, [], ◌∷◌, Option, Some, None, unwrap_or, if◌then◌else◌}
use Rattle.lx_dispatch.specs.TestTrees.{Question, holds}
use Rattle.lx_dispatch.specs.TransitionClasses.{Split, Stretch, before}

-- one of the questions holds of the unit
abbrev pub any_holds : (sets : (set unit : ℕ) → Bool) → List Question → (unit : ℕ) → Bool
any_holds sets [] unit = false
any_holds sets (question ∷ questions) unit = if holds sets question unit then true else any_holds sets questions unit

-- so many units, from a lowest one on, are all of some sort
abbrev pub all_from : (test : ℕ → Bool) → (low count : ℕ) → Bool
all_from test low zero = true
all_from test low (suc count) = test low && all_from test (suc low) count

-- so are those from a lowest one up to a greatest one
abbrev pub all_between : (test : ℕ → Bool) → (low greatest : ℕ) → Bool
all_between test low greatest = all_from test low (suc greatest - low)

-- It is decided on some units, and the units go up to a greatest one.
module _ (decided : ℕ → Bool) (top : ℕ) where
  -- a stretch before others; neighbours of one class become one
  abbrev pub left_before : Stretch → Option Split → Split
  left_before stretch None = record { tests = []; last = stretch.class }
  left_before stretch (Some split) = before stretch split

  -- the stretches from a lowest unit on without those of whose units each is decided, if there is another one
  abbrev pub left_from : (low : ℕ) → List Stretch → (last : Option ℕ) → Option Split
  left_from low [] last = if all_between decided low top then None else Some (record { tests = []; last = last })
  left_from low (stretch ∷ stretches) last =
      if all_between decided low stretch.greatest then left_from (suc stretch.greatest) stretches last
      else Some (left_before stretch (left_from (suc stretch.greatest) stretches last))

  -- the tests that are left
  abbrev pub left_split : Split → Split
  left_split split = unwrap_or (left_from 0 split.tests split.last) (record { tests = []; last = split.last })
