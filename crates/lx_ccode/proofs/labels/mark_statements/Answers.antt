use Rattle.std.proofs.Common.{refl}
use Rattle.lx_ccode.specs.Labels.{all_targets}
use Rattle.lx_ccode.specs.Statements.{targets}
use Rattle.lx_ccode.proofs.LabelMarks.{marked_next}
use Rattle.lx_ccode.proofs.labels.mark_statements.Goals as goal

pub loop-statement-preserved : goal.loop-statement-preserved
loop-statement-preserved c =
    marked_next targets all_targets c.args.statements.now c.loop-statement.statement-index c.statement-item.result _ _ _
    (λ statement statements. refl) c.loop-statement-test.true c.statement-item.is c.mark_targets.ensures c.loop-statement.invariant
