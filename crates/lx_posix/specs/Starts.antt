-- From which places, and at which levels, a search over states and levels begins, and in which order.
use Rattle.std.specs.Prelude.{◌≡◌, ℕ, zero, suc, ◌<◌, ◌≤◌, ◌↔◌, min, List, [], ◌∷◌, ◌++◌, Bool, true, false, not, nat_le}
use Rattle.lx_base.specs.declared.settings.Enc.{Enc}
use Rattle.lx_regex.specs.Cut.{Cut}
use Rattle.lx_regex.specs.Script.{Symbol}
use Rattle.lx_regex.specs.Term.{Term}
use Rattle.lx_posix.specs.Comparing.{Ranked, by_order, number_between, ranked_at, weighed}
use Rattle.lx_posix.specs.KernelLists.{in_order}
use Rattle.lx_posix.specs.Numbers.{PosixPrecedes}
use Rattle.lx_posix.specs.Walks.{lowest}

-- the least level of a walk from the place with this index: how many of the positions that are open there it keeps
abbrev pub level_from : List Ranked → (index : ℕ) → List Symbol → ℕ
level_from ranks index walk = lowest (ranked_at ranks index).depth (ranked_at ranks index).depth walk

module _ (enc : Enc) (rules : List Term) where
  -- Walks from the places with these indices lead to these cuts. Of different rules the first is that of the first rule. In one rule
  -- it is that from the first place, unless its level is less than both the number and the level of the other.
  abbrev pub AreWeighed : List Ranked → (from : ℕ) → (walk : List Symbol) → (other : ℕ) → (way : List Symbol) → (cut second : Cut) → Type 0
  AreWeighed ranks from walk other way cut second =
      ((ranked_at ranks from).rule < (ranked_at ranks other).rule → PosixPrecedes enc rules cut second)
      × ((ranked_at ranks from).rule ≡ (ranked_at ranks other).rule
      → (PosixPrecedes enc rules cut second
      ↔ (min (number_between ranks from other) (level_from ranks other way) ≤ level_from ranks from walk))
      × (PosixPrecedes enc rules second cut
      ↔ (level_from ranks from walk < min (number_between ranks from other) (level_from ranks other way))))

-- a search begins at the place with this index and at this level
pub record Start : Type 0 where
  pub from : ℕ
  pub level : ℕ

-- which of two comes first: each walk of the level of the first, from its place, comes before each of the other
abbrev pub is_start_first : List Ranked → Start → Start → Bool
is_start_first ranks start other =
    by_order (ranked_at ranks start.from).rule (ranked_at ranks other.from).rule
    true
    (by_order start.from other.from
    (weighed (number_between ranks start.from other.from) start.level other.level).is_first
    (nat_le other.level start.level)
    (not (weighed (number_between ranks other.from start.from) other.level start.level).is_first))
    false

-- those of one place, up to a level, the greatest first
abbrev pub starts_of_place : (from level : ℕ) → List Start
starts_of_place from zero = record { from = from; level = zero } ∷ []
starts_of_place from (suc level) = record { from = from; level = suc level } ∷ starts_of_place from level

-- `deep` has the depths of states and places: how many parts are open behind what stands there.
module _ (deep : ℕ → ℕ) where
  -- those of places, of which the first has this index
  abbrev pub starts_of_places : (from : ℕ) → List Ranked → List Start
  starts_of_places from [] = []
  starts_of_places from (ranked ∷ ranks) =
      starts_of_place from (min ranked.depth (deep ranked.place)) ++ starts_of_places (suc from) ranks

  -- the same in order
  abbrev pub level_starts : List Ranked → List Start
  level_starts ranks = in_order (is_start_first ranks) (starts_of_places 0 ranks)
