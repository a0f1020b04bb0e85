use Rattle.std.proofs.Common.{◌∙◌, ap, refl, set, get_or, []}
use Rattle.lx_ccode.specs.declared.piece.Stmt.TheVariants.{MCopy}
use Rattle.lx_step.specs.Numbers.{place_of}
use Rattle.lx_step.specs.Steps.{history_at}
use Rattle.lx_step.proofs.Tables.{IsStep-history}
use Rattle.lx_step.proofs.scanner.Scanner.copy_history.Goals as goal

pub returns : goal.returns
returns c = λ stream eof table conds.
    IsStep-history stream eof table conds (MCopy c.args.history c.args.source) c.args.self.now c.copy.new.self c.args.history (history_at c.args.self.now c.args.source) c.if-history-eq0.false c.requires.history
    (c.copy.ensures ∙ ap (λ place. set c.args.self.now.histories place (get_or c.args.self.now.histories c.place_of_history-source.result [])) c.place_of_history-place.ensures
    ∙ ap (λ place. set c.args.self.now.histories (place_of c.args.self.now.numbering.histories.keys c.args.history) (get_or c.args.self.now.histories place [])) c.place_of_history-source.ensures)
    (λ piece rest values answers. refl) (λ values. refl) (λ values. refl) refl
