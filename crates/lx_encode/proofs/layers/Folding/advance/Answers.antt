use Rattle.std.proofs.Common.{◌∙◌, ap, arith, refl}
use Rattle.lx_encode.proofs.Emptiness.{is_empty-true, is_empty-false}
use Rattle.lx_encode.proofs.FoldingSteps.{closed_empty, closed_block}
use Rattle.lx_encode.proofs.layers.Folding.advance.Goals as goal

pub returns-then-is_empty-clause-folded : goal.returns-then-is_empty-clause-folded
returns-then-is_empty-clause-folded c = λ layer runs folding.
    let old = c.args.self.now in
    let none = is_empty-true old.row.items old.row.len old.row.ok.0 c.if-is_empty.ensures in
    closed_empty layer runs old (record old { block = c.args.block }) c.args.table.now c.args.table.now folding refl refl none none (omega arith)

pub returns-clause-folded : goal.returns-clause-folded
returns-clause-folded c = λ layer runs folding.
    let old = c.args.self.now in
    closed_block layer runs old (record { closed = c.append_run.new.row; block = c.args.block; row = c.replace-row.new.dest })
    c.args.table.now c.residual_of.new.self folding c.in_ok-to.to c.in_ok-append_run.ensures.leads c.in_ok-to.ensures.grows
    (c.in_ok-to.ensures.row ∙ ap (λ v. v.items) c.replace-row.ensures.value)
    (is_empty-false old.row.items old.row.len old.row.ok.0 c.if-is_empty.ensures)
    (ap (λ v. v.items) c.replace-row.ensures.after ∙ c.new.ensures.items) (omega arith) c.requires.in_table.within
