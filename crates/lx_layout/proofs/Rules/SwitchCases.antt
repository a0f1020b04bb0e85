-- The cases of the switch over the stored states, block by block.
use Rattle.std.proofs.Common.{◌≡◌, ℕ, suc, Option, Some, None, List, [], ◌∷◌, ◌++◌, if◌then◌else◌, refl, ap, ◌∙◌}
use Rattle.lx_ccode.specs.declared.piece.Stmt.{Stmt}
use Rattle.lx_ccode.specs.declared.piece.StateCase.{StateCase}
use Rattle.lx_ccode.specs.States.{onto_cases, states_in, try_first}
use Rattle.lx_ccode.specs.Statements.{state_of}

onto_cases-append : (state : Option ℕ) (block : ℕ) (cases others : List StateCase)
    → onto_cases state block (cases ++ others) ≡ onto_cases state block cases ++ others
onto_cases-append None block cases others = refl
onto_cases-append (Some state) block cases others = refl

-- the cases of a block's statements stand before the others
pub states_in-append : (place : ℕ) (stmts : List Stmt) (others : List StateCase) → states_in place stmts others ≡ states_in place stmts [] ++ others
states_in-append place [] others = refl
states_in-append place (stmt ∷ stmts) others =
    let next = if try_first stmts then suc place else place in
    ap (λ cases. onto_cases (state_of stmt) next cases) (states_in-append place stmts others)
    ∙ onto_cases-append (state_of stmt) next (states_in place stmts []) others
