use Rattle.std.proofs.Common.{◌∷◌, [], map, refl}
use Rattle.lx_ccode.specs.declared.piece.SwitchCase.{SwitchCase}
use Rattle.lx_ccode.proofs.LabelMarks.{marked_next}
use Rattle.lx_ccode.proofs.labels.mark_cases.Goals as goal

pub loop-case-preserved : goal.loop-case-preserved
loop-case-preserved c =
    marked_next (λ (case : SwitchCase). case.block ∷ []) (map (λ case. case.block)) c.args.cases.now c.loop-case.case-index c.case-item.result _ _ _
    (λ case cases. refl) c.loop-case-test.true c.case-item.is c.mark.ensures c.loop-case.invariant
