use Rattle.std.proofs.Common.{[], refl}
use Rattle.lx_ccode.specs.Text.{label_case_then, label_cases_then}
use Rattle.lx_ccode.proofs.Tails.{appended_next, joined-nil, label_case_words}
use Rattle.lx_ccode.proofs.openings.append_label_cases.Goals as goal

pub loop-case-preserved : goal.loop-case-preserved
loop-case-preserved c =
    let names = c.args.names.now in
    appended_next (label_case_then names) (λ cases. label_cases_then names cases [])
    c.args.cases.now c.loop-case.case-index c.case-item.result _ _ _
    (joined-nil (label_case_words names c.case-item.result)) (λ cases. refl)
    c.loop-case-test.true c.case-item.is c.in_ok-append_label_case.ensures c.loop-case.invariant
