use Rattle.std.proofs.Common.{[], get_or, refl}
use Rattle.std.proofs.lemmas.List.{get_or_default}
use Rattle.lx_ccode.specs.declared.piece.StateCase.{StateCase}
use Rattle.lx_ccode.specs.Text.{state_case_then, state_cases_then}
use Rattle.lx_ccode.proofs.Tails.{appended_next, joined-nil, state_parts}
use Rattle.lx_ccode.proofs.lines.Scope.append_state_cases.Goals as goal

pub loop-case-preserved : goal.loop-case-preserved
loop-case-preserved c =
    let none : StateCase = record { state = 0; block = 0 } in
    let item : StateCase = get_or c.args.cases.now c.loop-case.case-index none in
    appended_next (state_case_then c.args.self.now.number) (λ cases. state_cases_then c.args.self.now.number cases [])
    c.args.cases.now c.loop-case.case-index item _ _ _
    (joined-nil (state_parts c.args.self.now.number item)) (λ cases. refl)
    c.loop-case-test.true (get_or_default c.args.cases.now c.loop-case.case-index none item c.loop-case-test.true)
    c.in_ok-append_state_case.ensures c.loop-case.invariant
