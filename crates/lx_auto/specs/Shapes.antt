-- What passes over automata keep of them, also at states that no word reaches.
use Rattle.std.specs.Prelude.{◌≡◌, ℕ, List, map, Some, Bool, true, false, Contains, slice_get}
use Rattle.lx_auto.specs.declared.automaton.Accept.{Accept}
use Rattle.lx_auto.specs.declared.automaton.Auto.{Auto}
use Rattle.lx_auto.specs.declared.automaton.Edge.{Edge}
use Rattle.lx_auto.specs.declared.automaton.Held.{Held}
use Rattle.lx_auto.specs.declared.automaton.Held.TheVariants.{Reg, MReg}
use Rattle.lx_auto.specs.declared.automaton.State.{State}
use Rattle.lx_auto.specs.Automaton.{has_unit, state_of}

-- whether what is held is a history
abbrev pub is_history : Held → Bool
is_history (Reg reg) = false
is_history (MReg mreg) = true

-- accepts of one rule hold the values of its tags in the same places
abbrev pub AreAgreed : List State → Type 0
AreAgreed states =
    (number other : ℕ) (first second : State) (accept same : Accept) → slice_get states number ≡ Some first
    → slice_get states other ≡ Some second → first.accept ≡ Some accept → second.accept ≡ Some same → accept.rule ≡ same.rule
    → accept.values ≡ same.values

-- some edge of the automaton has the unit
abbrev pub HasEdgeOn : Auto → (unit : ℕ) → Type 0
HasEdgeOn auto unit = (state : ℕ) × (edge : Edge) × Contains (state_of auto.states state).edges edge × (has_unit edge unit ≡ true)

-- some state accepts by the rule of the accept, with as many values, of the same sorts in the same order
abbrev pub HasAcceptLike : Auto → Accept → Type 0
HasAcceptLike auto accept =
    (state : ℕ) × (other : Accept) × ((state_of auto.states state).accept ≡ Some other) × (other.rule ≡ accept.rule)
    × (map is_history other.values ≡ map is_history accept.values)

-- The answer stays within the given automaton: each unit on one of its edges is on one of the given automaton's, each of its accepts is
-- like one of the given automaton's, and if accepts of one rule agree there on the places of values, they do so in the answer.
pub record StaysWithin (given answer : Auto) : Type 0 where
  pub units : (state unit : ℕ) (edge : Edge) → Contains (state_of answer.states state).edges edge → has_unit edge unit ≡ true
      → HasEdgeOn given unit
  pub accepts : (state : ℕ) (accept : Accept) → (state_of answer.states state).accept ≡ Some accept → HasAcceptLike given accept
  pub agreed : AreAgreed given.states → AreAgreed answer.states
