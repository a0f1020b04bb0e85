use Rattle.std.proofs.Common.{◌≡◌, drop}
use Rattle.std.specs.List.{list_any}
use Rattle.lx_regs.specs.IdleOps.{some_itself_at}
use Rattle.lx_regs.proofs.idle_ops.some_at_states.Given as goal

abbrev pub invariant-loop-state : goal.invariant-loop-state
invariant-loop-state l = list_any some_itself_at (drop l.state-index l.states) ≡ list_any some_itself_at l.states
