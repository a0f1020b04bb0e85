use Rattle.lx_compile.proofs.SomeFault.{IsFirstFault-some}
use Rattle.lx_compile.proofs.laws.sources_have_a_first_fault_or_none.Goals as goal

pub returns : goal.returns
returns c = IsFirstFault-some
