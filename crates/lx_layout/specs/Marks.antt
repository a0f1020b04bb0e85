-- The marks of the states in which a match can end, and from which one falls back, as they are found.
use Rattle.std.specs.Prelude.{◌≡◌, ℕ, suc, ◌+◌, ◌<◌, ◌↔◌, Bool, true, false, ◌&&◌, ◌||◌, not, is_some, nat_eq, nat_le, nat_lt, List, [], ◌∷◌, length, None, Contains, slice_index_or, if◌then◌else◌}
use Rattle.std.specs.List.{list_any}
use Rattle.lx_auto.specs.Automaton.{state_of}
use Rattle.lx_auto.specs.declared.automaton.Edge.{Edge}
use Rattle.lx_auto.specs.declared.automaton.State.{State}
use Rattle.lx_layout.specs.Halting.{Halting}
use Rattle.lx_layout.specs.declared.halting.Marks.{Marks}

-- what the code holds
abbrev pub seen_marks : Marks → Halting
seen_marks marks =
    record {
      halts = λ number. slice_index_or marks.halts.items number false;
      falls = λ number. slice_index_or marks.falls.items number false;
      format = marks.format;
    }

-- ---- where a match can end

-- some unit from a lowest one up to a greatest one has no edge, of edges in ascending order
abbrev pub bare_from : (greatest low : ℕ) → List Edge → Bool
bare_from greatest low [] = nat_le low greatest
bare_from greatest low (edge ∷ edges) = if nat_lt low edge.lo then nat_le low greatest else bare_from greatest (edge.hi + 1) edges

-- a match can end in a state with these edges, where it is known whether the input may end there
abbrev pub halts_by : (greatest : ℕ) → (at_end : Bool) → List Edge → Bool
halts_by greatest at_end edges = (nat_eq (length edges) 0 || at_end) || bare_from greatest 0 edges

-- the same of each state of a list, of which the first one has this number
abbrev pub halts_from : (greatest : ℕ) → (stands entered : Bool) → (number : ℕ) → List State → List Bool
halts_from greatest stands entered number [] = []
halts_from greatest stands entered number (given ∷ states) =
    halts_by greatest (stands && (entered || not (nat_eq number 0))) given.edges ∷ halts_from greatest stands entered (suc number) states

-- ---- from where it falls back

-- by where it can end: from a state that does not accept, in which it can end, or which leads to such a one
pub data FallsFrom (halts : List Bool) (states : List State) : (number : ℕ) → Type 0 where
  here : (number : ℕ) → number < length states → (state_of states number).accept ≡ None → slice_index_or halts number false ≡ true
      → FallsFrom halts states number
  onward : (number : ℕ) (edge : Edge) → number < length states → (state_of states number).accept ≡ None
      → Contains (state_of states number).edges edge → FallsFrom halts states edge.to → FallsFrom halts states number

-- by one step, from states that are marked
abbrev pub falls_by : (falls : List Bool) → (halts : Bool) → State → Bool
falls_by falls halts given = not (is_some given.accept) && (halts || list_any (λ (edge : Edge). slice_index_or falls edge.to false) given.edges)

-- how many states are not marked
abbrev pub unmarked : List Bool → ℕ
unmarked [] = 0
unmarked (true ∷ marks) = unmarked marks
unmarked (false ∷ marks) = suc (unmarked marks)

module _ (halts : List Bool) (states : List State) (falls : List Bool) where
  -- a match falls back from each state that is marked
  abbrev pub AllFall : Type 0
  AllFall = (number : ℕ) → slice_index_or falls number false ≡ true → FallsFrom halts states number

  -- by one step no other state is found
  abbrev pub IsClosed : Type 0
  IsClosed = (number : ℕ) → number < length states
      → falls_by falls (slice_index_or halts number false) (state_of states number) ≡ true → slice_index_or falls number false ≡ true

  -- just the states from which it falls back are marked
  abbrev pub AreFalls : Type 0
  AreFalls = (number : ℕ) → number < length states → slice_index_or falls number false ≡ true ↔ FallsFrom halts states number
