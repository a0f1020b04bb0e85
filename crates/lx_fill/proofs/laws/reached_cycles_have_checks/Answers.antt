use Rattle.lx_fill.proofs.ReachedCycles.{reached_cycle-checked}
use Rattle.lx_fill.proofs.laws.reached_cycles_have_checks.Goals as goal

pub returns : goal.returns
returns c = reached_cycle-checked
