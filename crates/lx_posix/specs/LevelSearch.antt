-- One search from all places of a kernel, over states and levels: a depth-first search of a graph, which keeps what it visited for
-- all starts together.
use Rattle.std.specs.Prelude.{ℕ, zero, suc, ◌+◌, ◌*◌, ◌/◌, ◌%◌, ◌≡◌, ◌<◌, ◌≤◌, List, [], ◌∷◌, ◌++◌, map, length, nat_eq, nat_le, nat_lt, if◌then◌else◌}
use Rattle.lx_regex.specs.Automaton.{State, automaton}
use Rattle.lx_regex.specs.Term.{Term}
use Rattle.lx_regex.specs.Walk.{mark}
use Rattle.lx_tnfa.specs.DepthFirst.{Found, search_from}
use Rattle.lx_tnfa.specs.PlaceNumbers.{numbers_after, symbols_added}
use Rattle.lx_tnfa.specs.LeafReadings.{IsNth}
use Rattle.lx_tnfa.specs.Tnfa.{Tnfa}
use Rattle.lx_tdfa.specs.Graph.{graph_of, rule_starts}
use Rattle.lx_tdfa.specs.Kernels.{Candidate, candidates, first_of_each, segment_symbols}
use Rattle.lx_posix.specs.Comparing.{Ranked, ranked_at}
use Rattle.lx_posix.specs.KernelLists.{ranks_to}
use Rattle.lx_posix.specs.LevelPaths.{state_depth}
use Rattle.lx_posix.specs.Starts.{Start, level_starts}
use Rattle.lx_posix.specs.Walks.{depth}

-- the choices of a search over states and levels without those that raise the level
abbrev pub moves_taken : (choices : List ℕ) → List ℕ
moves_taken [] = []
moves_taken (zero ∷ choices) = moves_taken choices
moves_taken (suc index ∷ choices) = index ∷ moves_taken choices

abbrev pub start_at : List Start → (index : ℕ) → Start
start_at [] index = record { from = 0; level = 0 }
start_at (start ∷ starts) zero = start
start_at (start ∷ starts) (suc index) = start_at starts index

-- a way from a place, whose index comes first
abbrev pub way_from : List Start → (choices : List ℕ) → List ℕ
way_from starts [] = []
way_from starts (index ∷ choices) = (start_at starts index).from ∷ moves_taken choices

-- `graph` has the moves in order, and `deep` the depth of each state. A state and a level less than `width` are one node.
module _ (graph : List (List ℕ)) (deep : ℕ → ℕ) (width : ℕ) where
  abbrev pub node_of : (state level : ℕ) → ℕ
  node_of state level = state * width + level

  -- From a state and a level to the next level, up to the depth of the state; and by its moves to the states that are no less deep
  -- than the level. A step that may not be taken leads back to where it begins.
  abbrev pub nodes_after : (state level : ℕ) → (nexts : List ℕ) → List ℕ
  nodes_after state level nexts =
      (if nat_lt level (deep state) then node_of state (suc level) else node_of state level)
      ∷ map (λ next. if nat_le level (deep next) then node_of next level else node_of state level) nexts

  -- those of a state at so many levels, of which this is the first
  abbrev pub rows_of_state : (state level count : ℕ) → (nexts : List ℕ) → List (List ℕ)
  rows_of_state state level zero nexts = []
  rows_of_state state level (suc count) nexts = nodes_after state level nexts ∷ rows_of_state state (suc level) count nexts

  -- those of states, of which the first has this number
  abbrev pub rows_of_states : (state : ℕ) → List (List ℕ) → List (List ℕ)
  rows_of_states state [] = []
  rows_of_states state (nexts ∷ rows) = rows_of_state state 0 width nexts ++ rows_of_states (suc state) rows

  abbrev pub level_graph : List (List ℕ)
  level_graph = rows_of_states 0 graph

  -- of what is found that at the depth of its state, as ways from places
  abbrev pub ways_found : List Start → List Found → List Found
  ways_found starts [] = []
  ways_found starts (found ∷ others) =
      if nat_eq (found.state % width) (deep (found.state / width))
      then (record { state = found.state / width; choices = way_from starts found.choices }) ∷ ways_found starts others
      else ways_found starts others

  abbrev pub start_nodes : List Ranked → List Start → List ℕ
  start_nodes ranks starts = map (λ (start : Start). node_of (ranked_at ranks start.from).place start.level) starts

  -- the ways that the search finds, in its order: to each state the first
  abbrev pub level_search : List Ranked → List Found
  level_search ranks =
      ways_found (level_starts deep ranks) (search_from level_graph [] (start_nodes ranks (level_starts deep ranks)))

-- the segments over a unit that the search finds from places with numbers: for each place the first that leads there, in its order
abbrev pub level_segments : Tnfa → List Term → (deep : ℕ → ℕ) → (width : ℕ) → List Ranked → (unit : ℕ) → List Candidate
level_segments tnfa rules deep width ranks unit =
    first_of_each [] (candidates (λ state. numbers_after tnfa state unit) (level_search (graph_of (automaton rules)) deep width ranks))

-- The depths of the places: at a state behind the beginning or the end that stands there, and within a leaf that of the place.
abbrev pub ArePlaceDepths : List State → List Ranked → (deep : ℕ → ℕ) → Type 0
ArePlaceDepths states ranks deep =
    (index : ℕ) (ranked : Ranked) → IsNth ranks index ranked
    → (ranked.place < length states → deep ranked.place ≡ depth ranked.depth (mark ranked.place ∷ []))
    × (length states ≤ ranked.place → deep ranked.place ≡ ranked.depth)

-- what is kept after segments over a unit from places with numbers
abbrev pub ranks_by : Tnfa → List Term → List Ranked → (unit : ℕ) → List Candidate → List Ranked
ranks_by tnfa rules ranks unit segments =
    ranks_to (graph_of (automaton rules)) (numbers_after tnfa) (segment_symbols rules (symbols_added tnfa)) (rule_starts rules)
    ranks unit segments

-- the depth of the first place with this number
abbrev pub depth_among_places : List Ranked → (place : ℕ) → ℕ
depth_among_places [] place = 0
depth_among_places (ranked ∷ ranks) place = if nat_eq ranked.place place then ranked.depth else depth_among_places ranks place

-- the depths of the states of a rule list, and beyond them of places within leaves
abbrev pub place_depth : List Term → List Ranked → (place : ℕ) → ℕ
place_depth rules ranks place =
    if nat_lt place (length (automaton rules)) then state_depth rules place else depth_among_places ranks place
