use Rattle.lx_compile.proofs.OneFault.{IsFirstFault-one}
use Rattle.lx_compile.proofs.laws.sources_have_one_first_fault.Goals as goal

pub returns : goal.returns
returns c = IsFirstFault-one
