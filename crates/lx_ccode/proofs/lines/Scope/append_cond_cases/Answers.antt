use Rattle.std.proofs.Common.{[], refl}
use Rattle.lx_ccode.specs.Text.{cond_case_then, cond_cases_then}
use Rattle.lx_ccode.proofs.Tails.{appended_next, cond_parts, joined-nil}
use Rattle.lx_ccode.proofs.lines.Scope.append_cond_cases.Goals as goal

pub loop-case-preserved : goal.loop-case-preserved
loop-case-preserved c =
    appended_next (cond_case_then c.args.self.now.number c.args.self.now.names.now)
    (λ cases. cond_cases_then c.args.self.now.number c.args.self.now.names.now cases [])
    c.args.cases.now c.loop-case.case-index c.case-item.result _ _ _
    (joined-nil (cond_parts c.args.self.now.number c.args.self.now.names.now c.case-item.result)) (λ cases. refl)
    c.loop-case-test.true c.case-item.is (rw c.condition_prefix-prefix.ensures at c.in_ok-append_cond_case.ensures) c.loop-case.invariant
