-- In which states of an automaton a match can end, which states are saved for a fallback, and by which accepts a match ends.
use Rattle.std.specs.Prelude.{◌≡◌, ℕ, zero, suc, ◌<◌, ◌≤◌, ◌↔◌, nat_eq, nat_lt, Bool, true, false, ◌&&◌, ◌||◌, List, [], ◌∷◌, length, Option, Some, None, Contains, IsSome, is_some, if◌then◌else◌}
use Rattle.std.specs.List.{list_any}
use Rattle.lx_auto.specs.Automaton.{edge_on, state_of}
use Rattle.lx_auto.specs.declared.automaton.Accept.{Accept}
use Rattle.lx_auto.specs.declared.automaton.Auto.{Auto}
use Rattle.lx_auto.specs.declared.automaton.Edge.{Edge}
use Rattle.lx_auto.specs.declared.automaton.State.{State}
use Rattle.lx_base.specs.declared.settings.Format.{Format}
use Rattle.lx_base.specs.declared.settings.Format.TheVariants.{Three, Two}
use Rattle.lx_layout.specs.Layout.{saved_number, with_accept}

-- an edge leads to the state with this number
abbrev pub is_led_to : List State → (number : ℕ) → Bool
is_led_to states number = list_any (λ state. list_any (λ (edge : Edge). nat_eq edge.to number) state.edges) states

-- A match comes to the code of the state with this number. Where a rule stands at the end of the input a match begins in an entry that
-- stands apart, and comes to the code of state 0 only by an edge; but where that has no edge the entry leads to it.
abbrev pub is_entered : (end_rule : Option ℕ) → Auto → (number : ℕ) → Bool
is_entered None auto number = true
is_entered (Some rule) auto zero = nat_eq (length (state_of auto.states 0).edges) 0 || is_led_to auto.states 0
is_entered (Some rule) auto (suc number) = true

-- Of each state whether a match can end in it, and whether one falls back from it: it does not accept, and a match can end in it, or
-- behind it before a state that accepts.
pub record Halting : Type 0 where
  pub halts : ℕ → Bool
  pub falls : ℕ → Bool
  -- the format of the text that is laid out by these marks
  pub format : Format

-- ---- what is right of these

-- where a unit stands at the end or not, a rule stands at the end of the input or not, and units come up to a greatest one
module _ (eof end_rule : Option ℕ) (greatest : ℕ) (auto : Auto) where
  -- A match can end in a state: it has no edge; some unit has none; or the input ends there.
  pub data Halts (number : ℕ) : Type 0 where
    lone : (state_of auto.states number).edges ≡ [] → Halts number
    bare : (unit : ℕ) → unit ≤ greatest → edge_on (state_of auto.states number).edges unit ≡ None → Halts number
    at_end : IsSome eof → is_entered end_rule auto number ≡ true → Halts number

  -- It falls back from a state that does not accept: it can end there, or goes on to such a state.
  pub data Falls : (number : ℕ) → Type 0 where
    here : (number : ℕ) → (state_of auto.states number).accept ≡ None → Halts number → Falls number
    onward : (number : ℕ) (edge : Edge) → (state_of auto.states number).accept ≡ None → Contains (state_of auto.states number).edges edge
        → Falls edge.to → Falls number

  -- just these states are marked
  pub record AreHalting (halting : Halting) : Type 0 where
    pub halts : (number : ℕ) → number < length auto.states → halting.halts number ≡ true ↔ Halts number
    pub falls : (number : ℕ) → number < length auto.states → halting.falls number ≡ true ↔ Falls number

-- ---- what is saved, and by what a match ends

module _ (halting : Halting) where
  -- a state that accepts is saved on the edges to states from which a match falls back
  abbrev pub saves_on : State → Edge → Bool
  saves_on given edge = is_some given.accept && halting.falls edge.to

  -- whether a state is saved on some edge
  abbrev pub is_saved : State → Bool
  is_saved given = list_any (λ edge. saves_on given edge) given.edges

  -- by which accept a match ends in the state with this number, if it can; to which one it falls back; and by which one it ends in
  -- either way
  abbrev pub halted_accept : (number : ℕ) → State → Option Accept
  halted_accept number given = if halting.halts number then given.accept else None

  abbrev pub saved_accept : (number : ℕ) → State → Option Accept
  saved_accept number given = if is_saved given then given.accept else None

  abbrev pub ended_accept : (number : ℕ) → State → Option Accept
  ended_accept number given = if halting.halts number || is_saved given then given.accept else None

  -- of states from a number on, the first accept by each rule of those that are chosen, in the order in which they are found
  abbrev pub firsts_from : (choose : ℕ → State → Option Accept) → (found : List Accept) → (number : ℕ) → List State → List Accept
  firsts_from choose found number [] = found
  firsts_from choose found number (given ∷ states) = firsts_from choose (with_accept found (choose number given)) (suc number) states

  -- the first accept of each rule by which a match can end, and of each to which it can fall back
  abbrev pub ended_accepts : List State → List Accept
  ended_accepts states = firsts_from ended_accept [] 0 states

  abbrev pub saved_accepts : List State → List Accept
  saved_accepts states = firsts_from saved_accept [] 0 states

  -- The number of a state that is saved is kept where the fallback asks for it: where a match may have come to no state that accepts, or
  -- where it falls back to states of more rules than one. In text of format 2 it is kept in any case.
  abbrev pub keeps_numbers : Format → (saved_accepts : List Accept) → Bool
  keeps_numbers Two saved_accepts = true
  keeps_numbers Three saved_accepts = halting.falls 0 || nat_lt 1 (length saved_accepts)

  abbrev pub kept_number : (saved_accepts : List Accept) → Option Accept → Option ℕ
  kept_number saved_accepts accept = if keeps_numbers halting.format saved_accepts then Some (saved_number saved_accepts accept) else None

  -- a match falls back from some state of a list, of which the first one has this number
  abbrev pub any_falls : (number : ℕ) → List State → Bool
  any_falls number [] = false
  any_falls number (given ∷ states) = halting.falls number || any_falls (suc number) states
