-- A match that is under way: the values behind a step, and the code before it.
use Rattle.std.proofs.Common.{◌≡◌, ◌∙◌, sym, ap, refl, ℕ, suc, ◌+◌, List, [], ◌∷◌, ◌++◌, drop, true, false, Result, Ok, Err, OnErr, arith}
use Rattle.lx_ccode.specs.declared.piece.CondCase.{CondCase}
use Rattle.lx_ccode.specs.declared.piece.Stmt.{Stmt}
use Rattle.lx_ccode.specs.declared.piece.Stmt.TheVariants.{Tag, Count, End, Cond}
use Rattle.lx_ccode.specs.declared.piece.Piece.{Piece}
use Rattle.lx_ccode.specs.Machine.{Value}
use Rattle.lx_step.specs.declared.matches.Position.{Position}
use Rattle.lx_step.specs.declared.scanner.Scanner.{Scanner}
use Rattle.lx_step.specs.Given.{Given, after_value, after_values}
use Rattle.lx_step.specs.Matches.{code_of}
use Rattle.lx_step.specs.Places.{StandsAt}
use Rattle.lx_step.specs.Steps.{machine_of, values_after, given_after}
use Rattle.lx_step.proofs.Lists.{drop-slice_get}

after_values-append : (names : List (List ℕ)) (values : List Value) (value : Value) (given : Given)
    → after_values names (values ++ value ∷ []) given ≡ after_value names value (after_values names values given)
after_values-append names [] value given = refl
after_values-append names (first ∷ values) value given = after_values-append names values value (after_value names first given)

pub kept-step : (names : List (List ℕ)) (conds : List CondCase) (statement : Stmt) (scanner : Scanner) (values : List Value) (given : Given)
    → given_after names statement (machine_of conds scanner []) (after_values names values given) ≡ after_values names (values_after statement (machine_of conds scanner values) values) given
kept-step names conds (Tag tag false register) scanner values given = sym (after_values-append names values _ given)
kept-step names conds (Tag tag true history) scanner values given = sym (after_values-append names values _ given)
kept-step names conds (Count groups) scanner values given = sym (after_values-append names values _ given)
kept-step names conds (End place register) scanner values given = sym (after_values-append names values _ given)
kept-step names conds (Cond cond) scanner values given = sym (after_values-append names values _ given)
kept-step names conds _ scanner values given = refl

pub code-split : (piece : Piece) (at : Position) (statement : Stmt) → StandsAt piece.blocks at statement → code_of at ≡ statement ∷ drop (at.stmt + 1) at.code.now
code-split piece at statement stands =
    let next : suc at.stmt ≡ at.stmt + 1 = omega arith in
    drop-slice_get at.code.now at.stmt statement stands.stmt ∙ ap (λ n. statement ∷ drop n at.code.now) next

pub OnErr-always : {A E : Type 0} (result : Result A E) (P : Type 0) → P → OnErr result P
OnErr-always (Ok value) P h = tt
OnErr-always (Err error) P h = h
