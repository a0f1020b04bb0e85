-- The automaton of a table of kernels.
use Rattle.std.specs.Prelude.{◌≡◌, ℕ, zero, suc, ◌≤◌, List, [], ◌∷◌, length, Option, Some, None, Bool, true, false, All, slice_get}
use Rattle.lx_auto.specs.Automaton.{IsAuto, edge_on}
use Rattle.lx_auto.specs.declared.automaton.Accept.{Accept}
use Rattle.lx_auto.specs.declared.automaton.Auto.{Auto}
use Rattle.lx_auto.specs.declared.automaton.Edge.{Edge}
use Rattle.lx_auto.specs.declared.automaton.State.{State}
use Rattle.lx_auto.specs.declared.ops.Op.{Op}
use Rattle.lx_tnfa.specs.Closure.{IsClosureOf}
use Rattle.lx_tnfa.specs.Tnfa.{Tnfa}
use Rattle.lx_tnfa.specs.declared.closure.Reach.{Reach}
use Rattle.lx_tnfa.specs.declared.places.Place.{Place}
use Rattle.lx_tdfa.specs.Registers.{ending_ops, held_from, kinds_of_rule, step_ops, widest}
use Rattle.lx_tdfa.specs.Steps.{Ending, IsInLeaf, Step, first_ending, next_steps, places_of, start_place}

-- the state with this number is the first one
abbrev pub is_first : (number : ℕ) → Bool
is_first zero = true
is_first (suc number) = false

-- what a state accepts, by its first ending
abbrev pub accept_of : Tnfa → (first : Bool) → Option Ending → Option Accept
accept_of tnfa first None = None
accept_of tnfa first (Some ending) = Some (record {
  rule = ending.rule;
  ops = ending_ops tnfa (widest tnfa.rules) first ending;
  values = held_from 0 (kinds_of_rule tnfa ending.rule);
})

-- what is done where the state is left
abbrev pub leave_of : Tnfa → (first : Bool) → Option Ending → List Op
leave_of tnfa first None = []
leave_of tnfa first (Some ending) = ending_ops tnfa (widest tnfa.rules) first ending

-- How a state goes on: the steps over each unit, what they lead to, and the end of a rule that is reached first. What states stand for
-- is a kind of kernel: a list of places, or such a list with what else is kept of it.
pub record Onward (K : Type 0) : Type 0 where
  pub steps : (unit : ℕ) → List Step
  pub next : (unit : ℕ) → K
  pub ending : Option Ending

module _ {K : Type 0} (tnfa : Tnfa) (kernels : List K) (first : Bool) where
  -- the edge for some steps: none where there is no step, and else one to the state of the kernel to which they lead
  abbrev pub IsEdgeOf : List Step → (next : K) → Option Edge → Type 0
  IsEdgeOf [] next None = Unit {0}
  IsEdgeOf [] next (Some edge) = ⊥
  IsEdgeOf (step ∷ steps) next None = ⊥
  IsEdgeOf (step ∷ steps) next (Some edge) =
      (slice_get kernels edge.to ≡ Some next) × (edge.ops ≡ step_ops tnfa (widest tnfa.rules) first 0 (step ∷ steps))

-- a state that goes on so, with edges on units up to the greatest
pub record IsStateBy {K : Type 0} (tnfa : Tnfa) (greatest : ℕ) (kernels : List K) (first : Bool) (onward : Onward K) (state : State) : Type 0 where
  pub edges : (unit : ℕ) → unit ≤ greatest → IsEdgeOf tnfa kernels first (onward.steps unit) (onward.next unit) (edge_on state.edges unit)
  pub units : All (λ (edge : Edge). edge.hi ≤ greatest) state.edges
  pub accept : state.accept ≡ accept_of tnfa first onward.ending
  pub leave : state.leave ≡ leave_of tnfa first onward.ending

-- The automaton of a table of kernels, which go on by the relation: each state that of a kernel, the first one that of the start.
pub record IsTableBy {K : Type 0} (begin : K) (GoesOn : (first : Bool) → K → Onward K → Type 0) (tnfa : Tnfa) (greatest : ℕ) (kernels : List K) (auto : Auto) : Type 0 where
  pub formed : IsAuto auto
  pub start : slice_get kernels 0 ≡ Some begin
  pub lists : length kernels ≡ length auto.states
  pub states : (number : ℕ) (kernel : K) (state : State) → slice_get kernels number ≡ Some kernel → slice_get auto.states number ≡ Some state
      → (onward : Onward K) × GoesOn (is_first number) kernel onward × IsStateBy tnfa greatest kernels (is_first number) onward state

-- how a list of places goes on by the targets of its closure
abbrev pub onward_by : Tnfa → List Reach → Onward (List Place)
onward_by tnfa reaches = record {
  steps = λ unit. next_steps tnfa unit reaches;
  next = λ unit. places_of (next_steps tnfa unit reaches);
  ending = first_ending reaches;
}

-- the state of a list of places, with edges on units up to the greatest
pub record IsStateOf (tnfa : Tnfa) (greatest : ℕ) (kernels : List (List Place)) (first : Bool) (kernel : List Place) (state : State) : Type 0 where
  pub reaches : List Reach
  pub closure : IsClosureOf tnfa kernel reaches
  pub is : IsStateBy tnfa greatest kernels first (onward_by tnfa reaches) state

-- the automaton of a table of lists of places
pub record IsTable (tnfa : Tnfa) (greatest : ℕ) (kernels : List (List Place)) (auto : Auto) : Type 0 where
  pub formed : IsAuto auto
  pub start : slice_get kernels 0 ≡ Some (start_place ∷ [])
  pub lists : length kernels ≡ length auto.states
  pub places : (number : ℕ) (kernel : List Place) → slice_get kernels (suc number) ≡ Some kernel → All (IsInLeaf tnfa) kernel
  pub states : (number : ℕ) (kernel : List Place) (state : State) → slice_get kernels number ≡ Some kernel
      → slice_get auto.states number ≡ Some state → IsStateOf tnfa greatest kernels (is_first number) kernel state
