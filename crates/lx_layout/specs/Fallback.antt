-- The code of edges that save a state, and of the fallback to it.
use Rattle.std.specs.Prelude.{ℕ, List, [], ◌∷◌, Option, Some, None, Bool, true, false, ◌==◌, if◌then◌else◌}
use Rattle.lx_auto.specs.declared.automaton.Auto.{Auto}
use Rattle.lx_auto.specs.declared.automaton.Edge.{Edge}
use Rattle.lx_auto.specs.declared.automaton.State.{State}
use Rattle.lx_ccode.specs.declared.piece.Stmt.{Stmt}
use Rattle.lx_ccode.specs.declared.piece.Stmt.TheVariants.{Goto, IfAccept, Leave, Skip}
use Rattle.lx_layout.specs.Codes.{Choice, list_code, save_code}
use Rattle.lx_layout.specs.Halting.{Halting, saves_on}

-- an edge out of a state, to the block of another one: the operations come before the unit is passed
abbrev pub edge_code : Halting → Auto → State → (saved : Option ℕ) → Edge → (block : ℕ) → List Stmt
edge_code halting auto given saved edge block =
    save_code (saves_on halting given edge) saved (list_code auto given.leave (list_code auto edge.ops (Skip ∷ Goto block ∷ [])))

-- The choices one after another. Where a match may have come to no state that accepts, the last statement leads to no rule; where it
-- has come to one in any case, the last choice is left.
abbrev pub fallback_code : (leaves : Bool) → List Choice → List Stmt
fallback_code leaves [] = Leave ∷ []
fallback_code true (choice ∷ []) = IfAccept choice.saved choice.block ∷ Leave ∷ []
fallback_code false (choice ∷ []) = Goto choice.block ∷ []
fallback_code leaves (choice ∷ next ∷ choices) = IfAccept choice.saved choice.block ∷ fallback_code leaves (next ∷ choices)

-- the block that is chosen for a number
abbrev pub chosen : (leaves : Bool) → List Choice → (saved : ℕ) → Option ℕ
chosen leaves [] saved = None
chosen true (choice ∷ []) saved = if saved == choice.saved then Some choice.block else None
chosen false (choice ∷ []) saved = Some choice.block
chosen leaves (choice ∷ next ∷ choices) saved = if saved == choice.saved then Some choice.block else chosen leaves (next ∷ choices) saved
