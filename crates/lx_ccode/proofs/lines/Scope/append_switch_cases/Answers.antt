use Rattle.std.proofs.Common.{[], refl}
use Rattle.lx_ccode.specs.Text.{switch_case_then, switch_cases_then}
use Rattle.lx_ccode.proofs.Tails.{appended_next, switch_case_then-nil}
use Rattle.lx_ccode.proofs.lines.Scope.append_switch_cases.Goals as goal

pub loop-case-preserved : goal.loop-case-preserved
loop-case-preserved c =
    let number = c.args.self.now.number in
    appended_next (switch_case_then number) (λ cases. switch_cases_then number cases []) c.args.cases.now c.loop-case.case-index c.case-item.result _ _ _
    (switch_case_then-nil number c.case-item.result) (λ cases. refl)
    c.loop-case-test.true c.case-item.is c.in_ok-append_switch_case.ensures c.loop-case.invariant
