use Rattle.lx_ccode.specs.Bodies.{file_states_then}
use Rattle.lx_ccode.proofs.BodyTails.{file_states_then-nil}
use Rattle.lx_ccode.proofs.Tails.{switch_written}
use Rattle.lx_ccode.proofs.bodies.append_file_switch.Goals as goal

pub returns : goal.returns
returns c =
    let states = c.args.states.now in
    switch_written c.args.names.now (file_states_then states) _ _ _ _ _ (file_states_then-nil states)
    c.in_ok-append_state_head.ensures c.in_ok-append_file_states.ensures c.in_ok-append_default.ensures
