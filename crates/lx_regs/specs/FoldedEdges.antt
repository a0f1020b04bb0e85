-- One edge for each class of a state's edges, and the way back: a class are the edges of a state that lead to one state by one list.
use Rattle.std.specs.Prelude.{◌≡◌, ℕ, ◌<◌, List, [], ◌∷◌, length, map, Contains, slice_index_or}
use Rattle.lx_auto.specs.declared.automaton.Auto.{Auto}
use Rattle.lx_auto.specs.declared.automaton.Edge.{Edge}
use Rattle.lx_auto.specs.declared.automaton.State.{State}
use Rattle.lx_auto.specs.Automaton.{AreApart, state_of}
use Rattle.lx_regs.specs.declared.folding.Fold.{Fold}

-- ---- the way back

-- the edge at a place
abbrev pub edge_at : List Edge → ℕ → Edge
edge_at edges place = slice_index_or edges place (record { lo = 0; hi = 0; ops = []; to = 0 })

-- the edge of which this was noted: it leads as the one at the noted place
abbrev pub unfolded_edge : (kept : List Edge) → Fold → Edge
unfolded_edge kept fold = record { lo = fold.lo; hi = fold.hi; ops = (edge_at kept fold.place).ops; to = (edge_at kept fold.place).to }

-- the state with all the edges of which something was noted
abbrev pub unfolded_state : State → List Fold → State
unfolded_state state folds = record { edges = map (unfolded_edge state.edges) folds; accept = state.accept; leave = state.leave }

-- what was noted of a state's edges
abbrev pub folds_at : List (List Fold) → ℕ → List Fold
folds_at lists number = slice_index_or lists number []

-- the same of all states
abbrev pub unfolded_states : List State → List (List Fold) → List State
unfolded_states [] lists = []
unfolded_states (state ∷ states) [] = unfolded_state state [] ∷ unfolded_states states []
unfolded_states (state ∷ states) (folds ∷ lists) = unfolded_state state folds ∷ unfolded_states states lists

abbrev pub unfolded_auto : Auto → List (List Fold) → Auto
unfolded_auto auto lists = record { states = unfolded_states auto.states lists; regs = auto.regs; mregs = auto.mregs }

-- ---- what is noted

-- both edges lead to one state by one list
abbrev pub LeadAsOne : Edge → Edge → Type 0
LeadAsOne edge other = (edge.to ≡ other.to) × (edge.ops ≡ other.ops)

-- each place that is noted is that of an edge, and each edge is noted
pub record AreFolded (kept : List Edge) (folds : List Fold) : Type 0 where
  pub within : (fold : Fold) → Contains folds fold → fold.place < length kept
  pub noted : (place : ℕ) → place < length kept → (fold : Fold) × Contains folds fold × (fold.place ≡ place)

-- edges are those of which something was noted
pub record IsFoldedList (edges kept : List Edge) (folds : List Fold) : Type 0 where
  pub again : map (unfolded_edge kept) folds ≡ edges
  pub folded : AreFolded kept folds
  pub apart : AreApart edges → AreApart kept

pub record IsFoldedState (given state : State) (folds : List Fold) : Type 0 where
  pub again : unfolded_state state folds ≡ given
  pub folded : AreFolded state.edges folds
  pub apart : AreApart given.edges → AreApart state.edges

pub record AreFoldedStates (given states : List State) (lists : List (List Fold)) : Type 0 where
  pub count : length lists ≡ length states
  pub again : unfolded_states states lists ≡ given
  pub folded : (number : ℕ) → AreFolded (state_of states number).edges (folds_at lists number)
  pub apart : (number : ℕ) → AreApart (state_of given number).edges → AreApart (state_of states number).edges

-- the automaton is given again by what was noted
pub record IsFolding (given few : Auto) (lists : List (List Fold)) : Type 0 where
  pub count : length lists ≡ length few.states
  pub again : unfolded_auto few lists ≡ given
  pub folded : (number : ℕ) → AreFolded (state_of few.states number).edges (folds_at lists number)
