use Rattle.std.proofs.Common.{◌∙◌, ◌++◌, ◌∷◌, [], ap, refl, set, get_or, None}
use Rattle.lx_ccode.specs.declared.piece.Stmt.TheVariants.{MUnset}
use Rattle.lx_step.specs.Steps.{history_at}
use Rattle.lx_step.proofs.Tables.{IsStep-history}
use Rattle.lx_step.proofs.scanner.Scanner.append_none.Goals as goal

pub returns-clause-step : goal.returns-clause-step
returns-clause-step c = λ stream eof table conds. let put = c.in_ok-append.ensures in
    IsStep-history stream eof table conds (MUnset c.args.history) c.args.self.now c.append.new.self c.args.history (history_at c.args.self.now c.args.history ++ None ∷ []) c.if-history-eq0.false c.requires
    (put.appended ∙ ap (λ place. set c.args.self.now.histories place (get_or c.args.self.now.histories place [] ++ None ∷ [])) c.place_of_history-place.ensures)
    (λ piece rest values answers. refl) (λ values. refl) (λ values. refl) refl
