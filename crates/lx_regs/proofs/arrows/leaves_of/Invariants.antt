use Rattle.std.proofs.Common.{◌≡◌, map, take}
use Rattle.lx_auto.specs.declared.automaton.State.{State}
use Rattle.lx_regs.proofs.arrows.leaves_of.Given as goal

abbrev pub invariant-loop-state : goal.invariant-loop-state
invariant-loop-state l = l.leaves.items ≡ map (λ (state : State). state.leave) (take l.state-index l.auto'.states)
