-- The code of the end of a rule, part by part.
use Rattle.std.specs.Prelude.{◌≡◌, ℕ, List, [], ◌++◌, Option, Some, None, refl}
use Rattle.std.proofs.Common.{sym, ap, ◌∙◌, append_assoc}
use Rattle.lx_auto.specs.declared.automaton.Held.{Held}
use Rattle.lx_ccode.specs.declared.piece.Stmt.{Stmt}
use Rattle.lx_layout.specs.Endings.{Ending, action_code, back_code, cond_code, ending_code, slash_held, tags_code}
use Rattle.lx_layout.proofs.Rules.EndingLoops.{rule_code-parts}

cond_code-append : (cond : Option (List ℕ)) (rest : List Stmt) → cond_code cond rest ≡ cond_code cond [] ++ rest
cond_code-append None rest = refl
cond_code-append (Some cond) rest = refl

pub ending_code-parts : (ending : Ending) (rule : ℕ) (values : List Held)
    → ((tags_code ending 0 ending.tags values [] ++ back_code (slash_held ending.slash values) []) ++ cond_code ending.goes_to [])
    ++ action_code rule ending ending.action ending.forgets
    ≡ ending_code (λ (number : ℕ). ending) rule values
ending_code-parts ending rule values =
    let front : List Stmt = tags_code ending 0 ending.tags values [] ++ back_code (slash_held ending.slash values) [] in
    let last : List Stmt = action_code rule ending ending.action ending.forgets in
    append_assoc front (cond_code ending.goes_to []) last
    ∙ ap (λ l. front ++ l) (sym (cond_code-append ending.goes_to last))
    ∙ rule_code-parts ending ending.tags values (slash_held ending.slash values) (cond_code ending.goes_to last)
