-- Walks over the states of an automaton that visit no state twice between two units.
use Rattle.std.specs.Prelude.{◌≢◌, ℕ, List, [], ◌∷◌, AllPairs}
use Rattle.lx_regex.specs.Automaton.{State}
use Rattle.lx_regex.specs.Walk.{Walk, stay, moved, at_point, at_unit}

-- the states that a walk leaves until its first unit, in order
abbrev pub first_states : {states : List State} {last state : ℕ} → Walk states last state → List ℕ
first_states stay = []
first_states (moved {state} ways way stands among walk) = state ∷ first_states walk
first_states (at_point {state} ranges number stands within walk) = state ∷ []
first_states (at_unit {state} number stands walk) = state ∷ []

-- no two of the states that a walk leaves until its first unit are equal, and so on from each state on
abbrev pub VisitsOnce : {states : List State} {last state : ℕ} → Walk states last state → Type 0
VisitsOnce stay = Unit {0}
VisitsOnce (moved {state} ways way stands among walk) = AllPairs (λ state other. state ≢ other) (state ∷ first_states walk) × VisitsOnce walk
VisitsOnce (at_point ranges number stands within walk) = VisitsOnce walk
VisitsOnce (at_unit number stands walk) = VisitsOnce walk
