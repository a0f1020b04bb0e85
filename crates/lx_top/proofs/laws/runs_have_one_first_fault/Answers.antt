use Rattle.lx_top.proofs.FaultLemmas.{IsFirstFault-unique}
use Rattle.lx_top.proofs.laws.runs_have_one_first_fault.Goals as goal

pub returns : goal.returns
returns c = IsFirstFault-unique
