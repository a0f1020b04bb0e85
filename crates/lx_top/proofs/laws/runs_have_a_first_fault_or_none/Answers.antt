use Rattle.lx_top.proofs.SomeFault.{IsFirstFault-some}
use Rattle.lx_top.proofs.laws.runs_have_a_first_fault_or_none.Goals as goal

pub returns : goal.returns
returns c = IsFirstFault-some
