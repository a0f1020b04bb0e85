-- When an automaton is another one of which states that do the same are one.
use Rattle.std.specs.Prelude.{◌≡◌, ◌≢◌, ◌<◌, ℕ, List, map, length, Option, Some, None}
use Rattle.lx_auto.specs.declared.automaton.Auto.{Auto}
use Rattle.lx_auto.specs.declared.automaton.Edge.{Edge}
use Rattle.lx_auto.specs.declared.automaton.State.{State}
use Rattle.lx_auto.specs.Automaton.{edge_on, state_of}
use Rattle.lx_auto.specs.Points.{IsMet}
use Rattle.lx_auto.specs.ToldApart.{AcceptTheSame, AreToldApart, DoTheSame}

-- by the class of each state
module _ (class : ℕ → ℕ) where
  -- the edge, to the class of the state to which it leads
  abbrev pub moved_edge : Edge → Edge
  moved_edge edge = record edge { to = class edge.to }

  -- the state, with edges to classes
  abbrev pub moved_state : State → State
  moved_state state = record state { edges = map moved_edge state.edges }

  -- on a unit neither state has an edge; or both have one, do the same on the way, and come to one class
  abbrev pub MoveAlike : (state other : State) → Option Edge → Option Edge → Type 0
  MoveAlike state other None None = Unit {0}
  MoveAlike state other None (Some second) = ⊥
  MoveAlike state other (Some first) None = ⊥
  MoveAlike state other (Some first) (Some second) =
      DoTheSame state.leave other.leave × DoTheSame first.ops second.ops × (class first.to ≡ class second.to)

  -- both states accept the same, and move alike on each unit
  pub record AreAlike (state other : State) : Type 0 where
    pub accepts : AcceptTheSame state.accept other.accept
    pub moves : (unit : ℕ) → MoveAlike state other (edge_on state.edges unit) (edge_on other.edges unit)

-- the classes of states, and a state that is chosen for each class
pub record Classes : Type 0 where
  pub of : ℕ → ℕ
  pub chosen : ℕ → ℕ
  pub count : ℕ

-- Each state to which some walk comes is alike to the one that is chosen for its class, and walks come to each chosen one. The start
-- is in class 0, for which it is chosen.
pub record AreClasses (auto : Auto) (classes : Classes) : Type 0 where
  pub start : classes.of 0 ≡ 0
  pub within : (state : ℕ) → IsMet auto state → classes.of state < classes.count
  pub alike : (state : ℕ) → IsMet auto state
      → AreAlike classes.of (state_of auto.states state) (state_of auto.states (classes.chosen (classes.of state)))
  pub chosen : (class : ℕ) → class < classes.count → IsMet auto (classes.chosen class) × (classes.of (classes.chosen class) ≡ class)
  pub first : classes.chosen 0 ≡ 0

-- a word tells states of different classes apart
abbrev pub AreClassesApart : Auto → Classes → Type 0
AreClassesApart auto classes =
    (state other : ℕ) → IsMet auto state → IsMet auto other → classes.of state ≢ classes.of other
    → (word : List ℕ) × AreToldApart auto state other word

-- the answer's states are the chosen ones, with edges to classes
pub record IsMerge (given answer : Auto) (classes : Classes) : Type 0 where
  pub are : AreClasses given classes
  pub count : length answer.states ≡ classes.count
  pub states : (class : ℕ) → class < classes.count
      → state_of answer.states class ≡ moved_state classes.of (state_of given.states (classes.chosen class))
  pub regs : answer.regs ≡ given.regs
  pub mregs : answer.mregs ≡ given.mregs
