-- States with the groups of what was left last on the way to them.
use Rattle.std.specs.Prelude.{◌≡◌, ℕ, List, Option, Contains, slice_index, nat_eq, if◌then◌else◌}
use Rattle.lx_auto.specs.declared.automaton.Auto.{Auto}
use Rattle.lx_auto.specs.declared.automaton.Edge.{Edge}
use Rattle.lx_auto.specs.Automaton.{state_of}
use Rattle.lx_auto.specs.Points.{Point, IsReached}
use Rattle.lx_regs.specs.declared.reached.Pair.{Pair}
use Rattle.lx_regs.specs.Growth.{IsDueForSome}
use Rattle.lx_regs.specs.LeftGroups.{group_left}

-- the group of what was left last, once the state is left too
abbrev pub left_of : (numbers : List ℕ) → (state left : ℕ) → ℕ
left_of numbers state left = if nat_eq (slice_index numbers state) 0 then left else slice_index numbers state

-- behind an edge stands the pair of its target
abbrev pub IsBehind : (left : ℕ) → Edge → Pair → Type 0
IsBehind left edge pair = pair ≡ record { state = edge.to; left = left }

-- a pair behind an edge of the pair's state
abbrev pub IsNextPair : Auto → (numbers : List ℕ) → (pair next : Pair) → Type 0
IsNextPair auto numbers pair = IsDueForSome (state_of auto.states pair.state).edges (IsBehind (left_of numbers pair.state pair.left))

-- some walk comes to the pair: to its state, where a state of the group was left last
abbrev pub IsPair : Auto → (numbers : List ℕ) → Pair → Type 0
IsPair auto numbers pair = (left : Option ℕ) × IsReached auto
    (record { state = pair.state; left = left }) × (group_left numbers left ≡ pair.left)

-- these are the pairs to which walks come
pub record ArePairs (auto : Auto) (numbers : List ℕ) (pairs : List Pair) : Type 0 where
  pub sound : (pair : Pair) → Contains pairs pair → IsPair auto numbers pair
  pub complete : (point : Point) → IsReached auto point
      → Contains pairs (record { state = point.state; left = group_left numbers point.left })
