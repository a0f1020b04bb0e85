-- What states do, in numbers: two numbers are equal where lists of operations, or accepts, do the same.
use Rattle.std.specs.Prelude.{◌≡◌, ◌<◌, ◌↔◌, ◌⊎◌, ℕ, List, map, length, Contains, slice_get, Some}
use Rattle.lx_auto.specs.declared.automaton.Auto.{Auto}
use Rattle.lx_auto.specs.declared.automaton.Edge.{Edge}
use Rattle.lx_auto.specs.declared.ops.Op.{Op}
use Rattle.lx_auto.specs.Automaton.{state_of}
use Rattle.lx_auto.specs.ToldApart.{AcceptTheSame, DoTheSame}
use Rattle.lx_min.specs.declared.looks.Look.{Look}
use Rattle.lx_min.specs.declared.looks.Way.{Way}

-- an edge, where lists of operations have numbers
abbrev pub way_of : (number : List Op → ℕ) → (leave : List Op) → Edge → Way
way_of number leave edge = record { lo = edge.lo; hi = edge.hi; leave = number leave; ops = number edge.ops; to = edge.to }

-- a list of operations stands where some state is left or on one of its edges
abbrev pub IsOnTheWay : Auto → List Op → Type 0
IsOnTheWay auto ops =
    (state : ℕ) × (edge : Edge) × (state < length auto.states) × Contains (state_of auto.states state).edges edge
    × (((state_of auto.states state).leave ≡ ops) ⊎ (edge.ops ≡ ops))

-- the looks of the states of an automaton
pub record AreLooks (auto : Auto) (looks : List Look) : Type 0 where
  pub number : List Op → ℕ
  pub lists : (ops others : List Op) → IsOnTheWay auto ops → IsOnTheWay auto others → (number ops ≡ number others) ↔ DoTheSame ops others
  pub count : length looks ≡ length auto.states
  pub ways : (state : ℕ) (look : Look) → slice_get looks state ≡ Some look
      → look.ways.items ≡ map (way_of number (state_of auto.states state).leave) (state_of auto.states state).edges
  pub accepts : (state other : ℕ) (look second : Look) → slice_get looks state ≡ Some look → slice_get looks other ≡ Some second
      → (look.accept ≡ second.accept) ↔ AcceptTheSame (state_of auto.states state).accept (state_of auto.states other).accept
