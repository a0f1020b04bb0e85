use Rattle.lx_layout.proofs.halting.falls_of.Goals as goal
use Rattle.lx_layout.proofs.Laying.FallRounds.{are_falls}

pub returns : goal.returns
returns c =
    are_falls c.args.halts.now c.args.states.now c.mark_round.new.falls.items (c.mark_round.ensures.sound c.loop.invariant.sound)
    (c.mark_round.ensures.closed c.loop-test.false)
