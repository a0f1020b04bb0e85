-- From where the walks of a kernel begin, the targets to which its ways lead, with the tag events on them, and how these go on.
use Rattle.std.specs.Prelude.{◌≡◌, ℕ, suc, ◌+◌, ◌-◌, ◌*◌, ◌/◌, ◌<◌, List, [], ◌∷◌, ◌++◌, map, length, replicate, Bool, true, false, All, slice_index_or, if◌then◌else◌}
use Rattle.lx_base.specs.declared.settings.Enc.{Enc}
use Rattle.lx_encode.specs.declared.graph.Residual.{Residual}
use Rattle.lx_regex.specs.ClassLimits.{AllClassesFit}
use Rattle.lx_regex.specs.Pattern.{Pattern, terms_of}
use Rattle.lx_tnfa.specs.LeafReadings.{IsNth}
use Rattle.lx_tnfa.specs.Live.{mark_at, starts_in, state_of}
use Rattle.lx_tnfa.specs.Moves.{moves_in}
use Rattle.lx_tnfa.specs.PlaceNumbers.{is_finished, numbers_after}
use Rattle.lx_tnfa.specs.Tnfa.{IsTnfaOf, Tnfa, state_at}
use Rattle.lx_tnfa.specs.declared.closure.Reach.{Reach}
use Rattle.lx_tnfa.specs.declared.closure.Target.TheVariants.{Leaf}
use Rattle.lx_tnfa.specs.declared.states.Event.{Event}
use Rattle.lx_tnfa.specs.declared.states.Move.{Move}
use Rattle.lx_tdfa.specs.Kernels.{Candidate, candidates, first_of_each}
use Rattle.lx_tdfa.specs.Steps.{IsInLeaf}
use Rattle.lx_posix.specs.Beginnings.{AreBeginnings, point_number}
use Rattle.lx_posix.specs.Comparing.{Ranked}
use Rattle.lx_posix.specs.Finding.{IsFoundAt, IsWay, beginning_at, shown_found}
use Rattle.lx_posix.specs.declared.kept.Kept.{Kept}
use Rattle.lx_posix.specs.declared.points.Beginning.{Beginning}
use Rattle.lx_posix.specs.declared.points.Point.{Point}
use Rattle.lx_posix.specs.declared.points.Point.TheVariants.{State, Within}
use Rattle.lx_posix.specs.declared.search.Found.{Found}

-- ---- where walks begin

-- from a rule, before all units
abbrev pub first_begin : (begin : ℕ) → Beginning
first_begin begin = record { at = State begin; depth = 1; «open» = 0; number = 0 }

abbrev pub first_beginnings : Tnfa → List Beginning
first_beginnings tnfa = map first_begin tnfa.begins

-- from a place: at the end of its leaf, where that is finished, or else in the middle of the leaf
abbrev pub beginning_of : Tnfa → Kept → Beginning
beginning_of tnfa kept =
    if is_finished tnfa.classes (state_at tnfa kept.place) kept.place.rest.0
    then record { at = State (2 * kept.place.part + 1); depth = kept.depth - 1; «open» = kept.depth; number = kept.number }
    else record { at = Within kept.place; depth = kept.depth; «open» = kept.depth; number = kept.number }

abbrev pub beginnings_of : Tnfa → (first : Bool) → List Kept → List Beginning
beginnings_of tnfa true kernel = first_beginnings tnfa
beginnings_of tnfa false kernel = map (beginning_of tnfa) kernel

-- ---- what is reached

-- the move with this index of a state
abbrev pub move_of : Tnfa → (state index : ℕ) → Move
move_of tnfa state index = slice_index_or (moves_in (state_of tnfa.states state)) index (record { to = 0; events = [] })

-- the tag events on a way from a state by moves with these indices
abbrev pub events_on : Tnfa → (state : ℕ) → (way : List ℕ) → List Event
events_on tnfa state [] = []
events_on tnfa state (index ∷ way) = (move_of tnfa state index).events ++ events_on tnfa (move_of tnfa state index).to way

-- from a point, at which no move may be made within a leaf
abbrev pub events_from : Tnfa → Point → (way : List ℕ) → List Event
events_from tnfa (State state) way = events_on tnfa state way
events_from tnfa (Within place) way = []

-- there is a way from a point by moves with these indices; within a leaf no move is needed
abbrev pub IsWayFrom : Tnfa → Point → (way : List ℕ) → Type 0
IsWayFrom tnfa (State state) way = (to : ℕ) × IsWay tnfa state way to
IsWayFrom tnfa (Within place) way = Unit {0}

-- behind a point there is a state with a number less than this
abbrev pub IsBelow : (limit : ℕ) → Point → Type 0
IsBelow limit (State state) = suc state < limit
IsBelow limit (Within place) = Unit {0}

-- a start of the leaf at a state, as a target
abbrev pub start_reach : (from state : ℕ) → List Event → Residual → Reach
start_reach from state events rest = record { to = Leaf (record { part = state / 2; rest = rest }); events = events; from = from }

-- the targets at a point: within a leaf the place, and before a leaf each start of it, where an end can be reached behind it
abbrev pub reaches_at : Tnfa → (from : ℕ) → Point → List Event → List Reach
reaches_at tnfa from (Within place) events = record { to = Leaf place; events = events; from = from } ∷ []
reaches_at tnfa from (State state) events =
    if mark_at tnfa.live (state + 1)
    then map (start_reach from state events) (starts_in tnfa.classes (state_of tnfa.states state))
    else []

-- the index of the place from which a way begins: at first that of the start
abbrev pub source_of : (first : Bool) → (from : ℕ) → ℕ
source_of true from = 0
source_of false from = from

module _ (tnfa : Tnfa) (first : Bool) (beginnings : List Beginning) where
  -- the targets of a way
  abbrev pub found_reaches : Found → List Reach
  found_reaches found =
      reaches_at tnfa (source_of first found.from) found.at (events_from tnfa (beginning_at beginnings found.from).at found.way)

  -- those of ways, in order
  abbrev pub reaches_of : List Found → List Reach
  reaches_of [] = []
  reaches_of (found ∷ founds) = found_reaches found ++ reaches_of founds

  -- for each target the index of its way, where the first way has this index
  abbrev pub origins_of : (index : ℕ) → List Found → List ℕ
  origins_of index [] = []
  origins_of index (found ∷ founds) = replicate (length (found_reaches found)) index ++ origins_of (suc index) founds

-- ---- how it goes on

-- within a leaf the point is a place of that leaf
abbrev pub IsLeafPoint : Tnfa → Point → Type 0
IsLeafPoint tnfa (State state) = Unit {0}
IsLeafPoint tnfa (Within place) = IsInLeaf tnfa place

-- These are ways of an automaton from beginnings of places. The beginnings within leaves are places of these leaves.
pub record AreWaysFrom (enc : Enc) (patterns : List Pattern) (tnfa : Tnfa) (beginnings : List Beginning) (ranks : List Ranked)
    (founds : List Found) : Type 0 where
  pub of : IsTnfaOf enc patterns tnfa
  pub fits : AllClassesFit enc (terms_of patterns)
  pub deep : ℕ → ℕ
  pub are : AreBeginnings tnfa deep beginnings ranks
  pub leaves : All (λ (beginning : Beginning). IsLeafPoint tnfa beginning.at) beginnings
  pub found : All (IsFoundAt tnfa beginnings deep) founds

-- the segments over a unit by these ways: to each place the first
abbrev pub segments_by : Tnfa → List Found → (unit : ℕ) → List Candidate
segments_by tnfa founds unit =
    first_of_each [] (candidates (λ state. numbers_after tnfa state unit) (map (shown_found tnfa) founds))

-- Segments over a unit, and the targets by which they go on. `origins` has for each target the index of its way.
module _ (tnfa : Tnfa) (founds : List Found) (origins : List ℕ) (unit : ℕ) where
  -- the target with this index is that of the way that the segment takes, at whose end it picks one of the places after the unit
  pub record IsByWay (candidate : Candidate) (index : ℕ) : Type 0 where
    pub origin : ℕ
    pub found : Found
    pub named : IsNth origins index origin
    pub listed : IsNth founds origin found
    pub from : found.from ≡ candidate.from
    pub way : found.way ≡ candidate.key.way
    pub pick : IsNth (numbers_after tnfa (point_number tnfa found.at) unit) candidate.key.pick candidate.to

  -- the same of segments and targets one by one
  abbrev pub AreByWays : List Candidate → (indices : List ℕ) → Type 0
  AreByWays [] [] = Unit {0}
  AreByWays [] (index ∷ indices) = ⊥
  AreByWays (candidate ∷ candidates) [] = ⊥
  AreByWays (candidate ∷ candidates) (index ∷ indices) = IsByWay candidate index × AreByWays candidates indices
