-- The starts of a search by one sweep over the places: at each level those wait that are not yet found.
use Rattle.std.specs.Prelude.{ℕ, zero, suc, ◌+◌, ◌<◌, ◌≤◌, min, List, [], ◌∷◌, ◌++◌, All, length, map, slice_index_or, slice_set}
use Rattle.lx_posix.specs.Starts.{Start}
use Rattle.lx_posix.specs.declared.points.Beginning.{Beginning}
use Rattle.lx_posix.specs.declared.starts.Start.{Start as Found}

-- a start of the code
abbrev pub shown_start : Found → Start
shown_start start = record { from = start.from; level = start.level }

-- the greatest level from the beginning with this index
abbrev pub level_at : List Beginning → (index : ℕ) → ℕ
level_at [] index = 0
level_at (beginning ∷ beginnings) zero = min beginning.open beginning.depth
level_at (beginning ∷ beginnings) (suc index) = level_at beginnings index

-- a start is from one of the beginnings, and at one of its levels
pub record IsStartOf (beginnings : List Beginning) (start : Found) : Type 0 where
  pub from : start.from < length beginnings
  pub level : start.level ≤ level_at beginnings start.from

abbrev pub AreStartsOf : List Beginning → List Found → Type 0
AreStartsOf beginnings starts = All (IsStartOf beginnings) starts

-- the number of the beginning with this index; behind the last one 0
abbrev pub number_at : List Beginning → (index : ℕ) → ℕ
number_at [] index = 0
number_at (beginning ∷ beginnings) zero = beginning.number
number_at (beginning ∷ beginnings) (suc index) = number_at beginnings index

-- the places that wait at a level
abbrev pub waiting_at : List (List ℕ) → (level : ℕ) → List ℕ
waiting_at levels level = slice_index_or levels level []

-- one more place waits at the first levels, of which there are so many
abbrev pub with_place : List (List ℕ) → (place count : ℕ) → List (List ℕ)
with_place levels place zero = levels
with_place levels place (suc count) =
    slice_set (with_place levels place count) count (waiting_at (with_place levels place count) count ++ place ∷ [])

-- the starts at a level from some places
abbrev pub starts_at : (level : ℕ) → List ℕ → List Found
starts_at level places = map (λ place. record { from = place; level = level }) places

-- the starts that wait at so many levels from the lowest on, those of the greatest level first
abbrev pub starts_above : List (List ℕ) → (lowest count : ℕ) → List Found
starts_above levels lowest zero = []
starts_above levels lowest (suc count) =
    starts_at (lowest + count) (waiting_at levels (lowest + count)) ++ starts_above levels lowest count

-- at these levels no place waits any more
abbrev pub emptied_above : List (List ℕ) → (lowest count : ℕ) → List (List ℕ)
emptied_above levels lowest zero = levels
emptied_above levels lowest (suc count) = emptied_above (slice_set levels (lowest + count) []) lowest count
