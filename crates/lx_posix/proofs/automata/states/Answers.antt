use Rattle.std.proofs.Common.{◌<◌, length, arith}
use Rattle.lx_posix.proofs.Made.StatesMade.{states-more}
use Rattle.lx_posix.proofs.automata.states.Goals as goal

pub loop-number-preserved : goal.loop-number-preserved
loop-number-preserved c =
    let at = c.loop-number in
    let within : at.number < length at.kernels = omega (arith, c.loop-number-test.true, c.len.ensures) in
    states-more c.args.making.now.source.t.now c.args.kernels.now at.kernels c.state.new.kernels at.invariant.0 c.in_ok-state.ensures.0 at.states
    at.invariant.3 at.number at.invariant.1 within c.in_ok-state.field-0 c.in_ok-state.ensures.1 c.push.new.self c.in_ok-push.ensures.pushed
