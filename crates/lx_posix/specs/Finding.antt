-- The search over points and levels as the code makes it: from where, what it finds, and what waits in it.
use Rattle.std.specs.Prelude.{◌≡◌, ℕ, suc, ◌^◌, ◌<◌, ◌≤◌, List, [], ◌∷◌, ◌++◌, All, None, Some, length, map, nat_eq, nat_le, nat_lt, option_to_list, slice_index_or, take, if◌then◌else◌}
use Rattle.lx_base.specs.declared.settings.Enc.{Enc}
use Rattle.lx_regex.specs.Automaton.{automaton}
use Rattle.lx_regex.specs.Pattern.{Pattern, terms_of}
use Rattle.lx_regex.specs.Term.{Term}
use Rattle.lx_regex.specs.Walk.{mark}
use Rattle.lx_tnfa.specs.DepthFirst as searched
use Rattle.lx_tnfa.specs.DepthFirst.{search_from}
use Rattle.lx_tnfa.specs.LeafReadings.{IsNth}
use Rattle.lx_tnfa.specs.Live.{state_of}
use Rattle.lx_tnfa.specs.Moves.{moves_in}
use Rattle.lx_tnfa.specs.Tnfa.{IsTnfaOf, Tnfa}
use Rattle.lx_tnfa.specs.declared.states.Move.{Move}
use Rattle.lx_tdfa.specs.Graph.{graph_of}
use Rattle.lx_posix.specs.Beginnings.{AreBeginnings, IsPoint, point_number}
use Rattle.lx_posix.specs.Comparing.{Ranked}
use Rattle.lx_posix.specs.LevelPaths.{AreDepths}
use Rattle.lx_posix.specs.LevelSearch.{level_graph, start_nodes, ways_found}
use Rattle.lx_posix.specs.Starts as spec
use Rattle.lx_posix.specs.Walks.{depth}
use Rattle.lx_posix.specs.declared.points.Beginning.{Beginning}
use Rattle.lx_posix.specs.declared.points.Point.{Point}
use Rattle.lx_posix.specs.declared.points.Point.TheVariants.{State, Within}
use Rattle.lx_posix.specs.declared.search.Entry.{Entry}
use Rattle.lx_posix.specs.declared.search.Found.{Found}
use Rattle.lx_posix.specs.declared.search.Node.{Node}
use Rattle.lx_posix.specs.declared.starts.Start.{Start}

-- Beginnings from which a search can be made: those of places of an automaton, with depths that are less than a width.
pub record IsSearchable (tnfa : Tnfa) (beginnings : List Beginning) : Type 0 where
  pub enc : Enc
  pub patterns : List Pattern
  pub of : IsTnfaOf enc patterns tnfa
  pub few : length tnfa.states < 2 ^ 32
  pub deep : ℕ → ℕ
  pub width : ℕ
  pub depths : AreDepths (automaton (terms_of patterns)) deep
  pub small : (state : ℕ) → deep state < width
  pub narrow : width < 2 ^ 32
  pub ranks : List Ranked
  pub are : AreBeginnings tnfa deep beginnings ranks

-- the beginning with this index
abbrev pub beginning_at : List Beginning → (index : ℕ) → Beginning
beginning_at beginnings index =
    slice_index_or beginnings index (record { at = State 0; depth = 0; «open» = 0; number = 0 })

-- a search begins from one of the beginnings, at a level that is at most its depth
pub record IsStart (beginnings : List Beginning) (start : Start) : Type 0 where
  pub from : start.from < length beginnings
  pub level : start.level ≤ (beginning_at beginnings start.from).depth

abbrev pub AreStarts : List Beginning → List Start → Type 0
AreStarts beginnings starts = All (IsStart beginnings) starts

-- a point with the way there, whose first choice is the index of the beginning
abbrev pub shown_found : Tnfa → Found → searched.Found
shown_found tnfa found = record { state = point_number tnfa found.at; choices = found.from ∷ found.way }

-- the ways that the search finds from places with numbers, from these starts
abbrev pub ways_from : List Term → (deep : ℕ → ℕ) → (width : ℕ) → List Ranked → List spec.Start → List searched.Found
ways_from rules deep width ranks starts =
    let graph = graph_of (automaton rules) in
    ways_found graph deep width starts (search_from (level_graph graph deep width) [] (start_nodes graph deep width ranks starts))

-- a way from a state by moves with these indices
abbrev pub IsWay : Tnfa → (state : ℕ) → (way : List ℕ) → (to : ℕ) → Type 0
IsWay tnfa state [] to = state ≡ to
IsWay tnfa state (index ∷ way) to =
    (move : Move) × IsNth (moves_in (state_of tnfa.states state)) index move × IsWay tnfa move.to way to

-- what is found is a point of the automaton, with its depth and a way from one of the beginnings
pub record IsFoundAt (tnfa : Tnfa) (beginnings : List Beginning) (deep : ℕ → ℕ) (found : Found) : Type 0 where
  pub point : IsPoint tnfa found.at
  pub depth : found.depth ≡ deep (point_number tnfa found.at)
  pub from : found.from < length beginnings
  pub way : IsWay tnfa (point_number tnfa (beginning_at beginnings found.from).at) found.way (point_number tnfa found.at)

abbrev pub node_at : Entry → Node
node_at entry = record { at = entry.at; level = entry.level }

-- the trail at a node that waits
abbrev pub trail_to : (trail : List ℕ) → Entry → List ℕ
trail_to trail entry = take entry.prefix trail ++ option_to_list entry.last

-- the entry of a node at which the search begins
abbrev pub start_entry : List Beginning → Start → Entry
start_entry beginnings start = record {
  at = (beginning_at beginnings start.from).at;
  depth = (beginning_at beginnings start.from).depth;
  level = start.level;
  from = start.from;
  prefix = 0;
  last = None;
}

abbrev pub start_entries : List Beginning → List Start → List Entry
start_entries beginnings starts = map (start_entry beginnings) starts

-- `before` is an entry behind which so many moves are on the trail.
module _ (before : Entry) (walked : ℕ) where
  -- the entry of the state to which the move with this index leads
  abbrev pub move_entry : (index : ℕ) → Move → Entry
  move_entry index way = record {
    at = State way.to;
    depth = depth before.depth (mark way.to ∷ []);
    level = before.level;
    from = before.from;
    prefix = walked;
    last = Some index;
  }

  -- those of moves, of which the first has this index, to states that are no less deep than the level
  abbrev pub move_entries : (index : ℕ) → List Move → List Entry
  move_entries index [] = []
  move_entries index (way ∷ ways) =
      if nat_le before.level (depth before.depth (mark way.to ∷ []))
      then move_entry index way ∷ move_entries (suc index) ways
      else move_entries (suc index) ways

  -- the entry of the same state one level higher
  abbrev pub raised_entry : Entry
  raised_entry = record {
    at = before.at;
    depth = before.depth;
    level = suc before.level;
    from = before.from;
    prefix = walked;
    last = None;
  }

  -- those one step on from a state with these moves
  abbrev pub entries_from : List Move → List Entry
  entries_from ways =
      if nat_lt before.level before.depth then raised_entry ∷ move_entries 0 ways else move_entries 0 ways

-- the moves at a point; there are none within a leaf
abbrev pub moves_from : Tnfa → Point → List Move
moves_from tnfa (State number) = moves_in (state_of tnfa.states number)
moves_from tnfa (Within place) = []

-- the entries of the nodes one step on from a point, in order; nothing leads on within a leaf
abbrev pub entries_at : Tnfa → Point → Entry → (walked : ℕ) → List Entry
entries_at tnfa (State number) before walked = entries_from before walked (moves_in (state_of tnfa.states number))
entries_at tnfa (Within place) before walked = []

abbrev pub step_entries : Tnfa → Entry → (walked : ℕ) → List Entry
step_entries tnfa before walked = entries_at tnfa before.at before walked

-- what is found at a node, if that is at the depth of its point
abbrev pub found_entries : Entry → (trail : List ℕ) → List Found
found_entries entry trail =
    if nat_eq entry.level entry.depth
    then record { from = entry.from; at = entry.at; depth = entry.depth; way = trail } ∷ []
    else []
