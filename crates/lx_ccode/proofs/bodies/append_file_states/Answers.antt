use Rattle.std.proofs.Common.{[], get_or, refl}
use Rattle.std.proofs.lemmas.List.{get_or_default}
use Rattle.lx_ccode.specs.declared.bodies.FileState.{FileState}
use Rattle.lx_ccode.specs.Bodies.{file_states_then}
use Rattle.lx_ccode.specs.Text.{state_case_then}
use Rattle.lx_ccode.proofs.Tails.{appended_next, joined-nil, state_parts}
use Rattle.lx_ccode.proofs.bodies.append_file_states.Goals as goal

pub loop-state-preserved : goal.loop-state-preserved
loop-state-preserved c =
    let none : FileState = record { number = 0; case = record { state = 0; block = 0 } } in
    let item : FileState = get_or c.args.states.now c.loop-state.state-index none in
    appended_next (λ (state : FileState). state_case_then state.number state.case) (λ states. file_states_then states [])
    c.args.states.now c.loop-state.state-index item _ _ _
    (joined-nil (state_parts item.number item.case)) (λ states. refl)
    c.loop-state-test.true (get_or_default c.args.states.now c.loop-state.state-index none item c.loop-state-test.true)
    c.in_ok-append_state_case.ensures c.loop-state.invariant
