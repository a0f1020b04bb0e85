use Rattle.lx_layout.proofs.Laying.FallRounds.{RoundStands}
use Rattle.lx_layout.proofs.halting.mark_round.Given as goal

abbrev pub invariant-loop-index : goal.invariant-loop-index
invariant-loop-index l = RoundStands l.halts l.states l.initial.falls.items l.falls.items l.changed l.index
