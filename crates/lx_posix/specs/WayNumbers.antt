-- Ways by moves from state to state, the depths on them, and what two of them keep.
use Rattle.std.specs.Prelude.{ℕ, suc, ◌+◌, ◌-◌, ◌^◌, ◌%◌, ◌<◌, max, min, List, [], ◌∷◌, drop, map, length, nat_eq, take, if◌then◌else◌, slice_index}
use Rattle.lx_regex.specs.Script.{Symbol}
use Rattle.lx_regex.specs.Term.{Term}
use Rattle.lx_tnfa.specs.Live.{state_of}
use Rattle.lx_tnfa.specs.Moves.{moves_in}
use Rattle.lx_tnfa.specs.PlaceNumbers.{symbols_added}
use Rattle.lx_tnfa.specs.Tnfa.{Tnfa}
use Rattle.lx_tnfa.specs.declared.states.Move.{Move}
use Rattle.lx_tdfa.specs.Kernels.{segment_symbols}
use Rattle.lx_posix.specs.Beginnings.{point_number}
use Rattle.lx_posix.specs.Comparing.{Ranked, ranked_at}
use Rattle.lx_posix.specs.Finding.{IsWay, beginning_at}
use Rattle.lx_posix.specs.declared.points.Beginning.{Beginning}
use Rattle.lx_posix.specs.declared.points.Point.{Point}
use Rattle.lx_posix.specs.declared.points.Point.TheVariants.{State, Within}
use Rattle.lx_posix.specs.declared.search.Found.{Found}

-- how many parts are open behind a state to which a move leads from such a depth: a part begins there, or ends
abbrev pub depth_behind : (depth state : ℕ) → ℕ
depth_behind depth state = if nat_eq (state % 2) 0 then suc depth else depth - 1

-- the state from which moves lead on; from within a leaf none do
abbrev pub state_number : Point → ℕ
state_number (State number) = number
state_number (Within place) = 0

-- the least of a number and those of some places
abbrev pub least_of : (least : ℕ) → List Beginning → ℕ
least_of least [] = least
least_of least (beginning ∷ beginnings) = least_of (min least beginning.number) beginnings

-- the least of the numbers behind the first of two places up to the last
abbrev pub numbers_between : List Beginning → (first last : ℕ) → ℕ
numbers_between beginnings first last =
    least_of (beginning_at beginnings last).number (take (last - (first + 1)) (drop (first + 1) beginnings))

module _ (tnfa : Tnfa) where
  -- the states to which the moves of a state lead, in their order
  abbrev pub next_states : (state : ℕ) → List ℕ
  next_states state = map (λ (move : Move). move.to) (moves_in (state_of tnfa.states state))

  abbrev pub next_state : (state index : ℕ) → ℕ
  next_state state index = slice_index (next_states state) index

  -- each index names a move, and each depth behind the states of a way has 32 bits, from a state with this depth on
  abbrev pub FitsOnWay : (state depth : ℕ) → (way : List ℕ) → Type 0
  FitsOnWay state depth [] = Unit {0}
  FitsOnWay state depth (index ∷ way) =
      (index < length (moves_in (state_of tnfa.states state)))
      × (depth_behind depth (next_state state index) < 2 ^ 32)
      × FitsOnWay (next_state state index) (depth_behind depth (next_state state index)) way

  -- the lowest depth on a way from a state with this depth on, where `low` was the lowest so far
  abbrev pub lowest_on_way : (state depth low : ℕ) → (way : List ℕ) → ℕ
  lowest_on_way state depth low [] = low
  lowest_on_way state depth low (index ∷ way) =
      lowest_on_way (next_state state index) (depth_behind depth (next_state state index))
      (min low (depth_behind depth (next_state state index))) way

  -- the number of two ways from one state with this depth: the lowest depth on either from where they part
  abbrev pub number_of_fork : (state depth : ℕ) → (way other : List ℕ) → ℕ
  number_of_fork state depth [] other = depth
  number_of_fork state depth (index ∷ way) [] = depth
  number_of_fork state depth (index ∷ way) (second ∷ other) =
      if nat_eq index second
      then number_of_fork (next_state state index) (depth_behind depth (next_state state index)) way other
      else min (lowest_on_way state depth depth (index ∷ way)) (lowest_on_way state depth depth (second ∷ other))

  -- a point is found by a way from one of some beginnings
  pub record IsFound (beginnings : List Beginning) (found : Found) : Type 0 where
    pub from : found.from < length beginnings
    pub way : IsWay tnfa (point_number tnfa (beginning_at beginnings found.from).at) found.way (point_number tnfa found.at)

  -- the lowest depth on the way to a point, that of the place included from which it begins
  abbrev pub lowest_to : List Beginning → Found → ℕ
  lowest_to beginnings found =
      lowest_on_way (state_number (beginning_at beginnings found.from).at) (beginning_at beginnings found.from).depth
      (min (beginning_at beginnings found.from).open (beginning_at beginnings found.from).depth) found.way

  -- the number of two ways: from one beginning that where they part; else the least of the numbers between their beginnings and of
  -- the lowest depths on them
  abbrev pub number_of_ways : List Beginning → (found other : Found) → ℕ
  number_of_ways beginnings found other =
      if nat_eq found.from other.from
      then number_of_fork (state_number (beginning_at beginnings found.from).at) (beginning_at beginnings found.from).depth found.way other.way
      else min (min (numbers_between beginnings (min found.from other.from) (max found.from other.from)) (lowest_to beginnings found))
      (lowest_to beginnings other)

  -- the symbols of the way to a point, and of a way to read a unit there
  abbrev pub walk_to : List Term → List Ranked → Found → (unit pick : ℕ) → List Symbol
  walk_to rules ranks found unit pick =
      segment_symbols rules (symbols_added tnfa) (ranked_at ranks found.from).place unit (record { way = found.way; pick = pick })
