-- The points of an automaton: a state, and what a fallback from there would read.
use Rattle.std.specs.Prelude.{ℕ, List, [], Option, Some, None, Contains}
use Rattle.lx_auto.specs.declared.automaton.Accept.{Accept}
use Rattle.lx_auto.specs.declared.automaton.Auto.{Auto}
use Rattle.lx_auto.specs.declared.automaton.Edge.{Edge}
use Rattle.lx_auto.specs.declared.automaton.Held.{Held}
use Rattle.lx_auto.specs.declared.automaton.State.{State}
use Rattle.lx_auto.specs.Automaton.{state_of}

-- a state, and the accepting state that was left last, if one was
pub record Point : Type 0 where
  pub state : ℕ
  pub left : Option ℕ

-- where a match begins
abbrev pub first_point : Point
first_point = record { state = 0; left = None }

-- what holds the values of what is accepted, if something is
abbrev pub values_of : Option Accept → List Held
values_of None = []
values_of (Some accept) = accept.values

-- the accepting state left last, once a state is left too
abbrev pub left_by : Option Accept → Point → Option ℕ
left_by None point = point.left
left_by (Some accept) point = Some point.state

module _ (auto : Auto) where
  -- the state of a point
  abbrev pub state_at : Point → State
  state_at point = state_of auto.states point.state

  -- what holds the values that a fallback from the point reads
  abbrev pub values_left : (left : Option ℕ) → List Held
  values_left None = []
  values_left (Some state) = values_of (state_of auto.states state).accept

  -- the accepting state left last behind the point
  abbrev pub left_behind : Point → Option ℕ
  left_behind point = left_by (state_at point).accept point

  -- behind an edge out of the point's state
  abbrev pub point_behind : Point → Edge → Point
  point_behind point edge = record { state = edge.to; left = left_behind point }

-- some walk from where a match begins comes to the point
pub data IsReached (auto : Auto) : Point → Type 0 where
  begins : IsReached auto first_point
  goes_on : (point : Point) (edge : Edge) → IsReached auto point → Contains (state_at auto point).edges edge
      → IsReached auto (point_behind auto point edge)

-- some walk comes to the state
abbrev pub IsMet : Auto → (state : ℕ) → Type 0
IsMet auto state = (left : Option ℕ) × IsReached auto (record { state = state; left = left })
