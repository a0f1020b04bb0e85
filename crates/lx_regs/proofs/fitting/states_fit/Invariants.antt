use Rattle.std.proofs.Common.{Contains, take}
use Rattle.lx_auto.specs.declared.automaton.State.{State}
use Rattle.lx_regs.proofs.Translations.FittingSteps.{StateFits}
use Rattle.lx_regs.proofs.fitting.states_fit.Given as goal

abbrev pub invariant-loop-state : goal.invariant-loop-state
invariant-loop-state l = (state : State) → Contains (take l.state-index l.states) state → StateFits l.regs l.mregs state
