-- When a word tells two states of an automaton apart.
use Rattle.std.specs.Prelude.{◌≡◌, ◌≢◌, ◌<◌, ℕ, List, [], ◌∷◌, length, Option, Some, None}
use Rattle.lx_auto.specs.declared.automaton.Accept.{Accept}
use Rattle.lx_auto.specs.declared.automaton.Auto.{Auto}
use Rattle.lx_auto.specs.declared.automaton.Edge.{Edge}
use Rattle.lx_auto.specs.declared.automaton.Held.{Held}
use Rattle.lx_auto.specs.declared.automaton.State.{State}
use Rattle.lx_auto.specs.declared.ops.Op.{Op}
use Rattle.lx_auto.specs.Automaton.{edge_on, state_of}
use Rattle.lx_auto.specs.Effects.{effect_of}

-- behind both lists each register holds the same, whatever they write on the way
abbrev pub DoTheSame : (ops others : List Op) → Type 0
DoTheSame ops others = (held : Held) → effect_of ops held ≡ effect_of others held

-- neither state accepts, or both do by one rule, with values in the same registers, which get the same
abbrev pub AcceptTheSame : Option Accept → Option Accept → Type 0
AcceptTheSame None None = Unit {0}
AcceptTheSame None (Some other) = ⊥
AcceptTheSame (Some accept) None = ⊥
AcceptTheSame (Some accept) (Some other) = (accept.rule ≡ other.rule) × (accept.values ≡ other.values) × DoTheSame accept.ops other.ops

-- on a unit neither state has an edge; or both have one, and do the same where they are left and on their edges
abbrev pub MoveTheSame : (state other : State) → Option Edge → Option Edge → Type 0
MoveTheSame state other None None = Unit {0}
MoveTheSame state other None (Some second) = ⊥
MoveTheSame state other (Some first) None = ⊥
MoveTheSame state other (Some first) (Some second) = DoTheSame state.leave other.leave × DoTheSame first.ops second.ops

-- somewhere on the word the two states do not accept the same, or do not move the same on its next unit
pub data AreToldApart (auto : Auto) : (state other : ℕ) → (word : List ℕ) → Type 0 where
  by_accepts : (state other : ℕ) → (AcceptTheSame (state_of auto.states state).accept (state_of auto.states other).accept → ⊥)
      → AreToldApart auto state other []
  by_moves : (state other unit : ℕ)
      → (MoveTheSame (state_of auto.states state) (state_of auto.states other) (edge_on (state_of auto.states state).edges unit)
      (edge_on (state_of auto.states other).edges unit) → ⊥) → AreToldApart auto state other (unit ∷ [])
  further_on : (state other unit : ℕ) (first second : Edge) (word : List ℕ) → edge_on (state_of auto.states state).edges unit ≡ Some first
      → edge_on (state_of auto.states other).edges unit ≡ Some second → AreToldApart auto first.to second.to word
      → AreToldApart auto state other (unit ∷ word)

-- a word tells any two states apart
abbrev pub AllAreToldApart : Auto → Type 0
AllAreToldApart auto =
    (state other : ℕ) → state < length auto.states → other < length auto.states → state ≢ other
    → (word : List ℕ) × AreToldApart auto state other word
