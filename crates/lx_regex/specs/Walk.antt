-- Walks over the states of an automaton.
use Rattle.std.specs.Prelude.{◌≡◌, ℕ, ◌+◌, ◌%◌, ◌/◌, List, ◌∷◌, ◌++◌, map, Some, nat_eq, if◌then◌else◌, slice_get}
use Rattle.lx_base.specs.declared.settings.Enc.{Enc}
use Rattle.lx_base.specs.Spelling.{spell}
use Rattle.lx_regex.specs.Term.{IsInRanges}
use Rattle.lx_regex.specs.Script.{Symbol, begins, ends, reads, leaf_choice}
use Rattle.lx_regex.specs.Automaton.{Move, target, label, State, moves, leaf, unit_leaf}

-- a move is one of some
pub data IsAmong : Move → List Move → Type 0 where
  first : {way : Move} {others : List Move} → IsAmong way (way ∷ others)
  next : {way other : Move} {others : List Move} → IsAmong way others → IsAmong way (other ∷ others)

-- the symbol of a state: a part begins there or ends
abbrev pub mark : ℕ → Symbol
mark state = if nat_eq (state % 2) 0 then begins (state / 2) else ends (state / 2)

-- a walk over the states `g`, to the state `last`: by a move, by a code point of a leaf's class, or by any unit
pub data Walk (states : List State) (last : ℕ) : ℕ → Type 0 where
  stay : Walk states last last
  moved : {state : ℕ}
      → (ways : List Move) (way : Move) → slice_get states state ≡ Some (moves ways) → IsAmong way ways → Walk states last (target way)
      → Walk states last state
  at_point : {state : ℕ}
      → (ranges : List (ℕ × ℕ)) (number : ℕ) → slice_get states state ≡ Some (leaf ranges) → IsInRanges ranges number
      → Walk states last (state + 1) → Walk states last state
  at_unit : {state : ℕ}
      → (number : ℕ) → slice_get states state ≡ Some unit_leaf → Walk states last (state + 1) → Walk states last state

module _ (enc : Enc) where
  -- the symbols of a walk, and then the tail
  abbrev pub symbols : {states : List State} {last state : ℕ} → Walk states last state → (tail : List Symbol) → List Symbol
  symbols stay tail = tail
  symbols (moved {state} ways way stands among walk) tail = mark state ∷ (label way ++ symbols walk tail)
  symbols (at_point {state} ranges number stands within walk) tail =
      mark state ∷ (leaf_choice enc ranges number ++ (map reads (spell enc number) ++ symbols walk tail))
  symbols (at_unit {state} number stands walk) tail = mark state ∷ reads number ∷ symbols walk tail
