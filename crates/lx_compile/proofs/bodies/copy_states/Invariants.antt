use Rattle.std.proofs.Common.{◌≡◌, take}
use Rattle.lx_compile.proofs.bodies.copy_states.Given as goal

abbrev pub invariant-loop-state : goal.invariant-loop-state
invariant-loop-state l = l.copies ≡ take l.state-index l.states
