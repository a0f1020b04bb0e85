-- What is read in a leaf of an automaton.
use Rattle.std.specs.Prelude.{ℕ, List, [], ◌∷◌}
use Rattle.lx_base.specs.declared.settings.Enc.{Enc}
use Rattle.lx_base.specs.Spelling.{spell}
use Rattle.lx_regex.specs.Automaton.{State, leaf, unit_leaf}
use Rattle.lx_regex.specs.Script.{Symbol, leaf_choice}
use Rattle.lx_regex.specs.Term.{IsInRanges}

-- from the beginning of a leaf to its end: a choice, if there is one, and the spelling of a code point of the class, or any unit
pub data IsReading (enc : Enc) : State → (choice : List Symbol) → (units : List ℕ) → Type 0 where
  of_point : {ranges : List (ℕ × ℕ)} → (number : ℕ) → IsInRanges ranges number
      → IsReading enc (leaf ranges) (leaf_choice enc ranges number) (spell enc number)
  of_unit : (number : ℕ) → IsReading enc unit_leaf [] (number ∷ [])
