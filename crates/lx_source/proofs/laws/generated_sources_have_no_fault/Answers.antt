use Rattle.lx_source.proofs.SourceFaults.{no-fault}
use Rattle.lx_source.proofs.laws.generated_sources_have_no_fault.Goals as goal

pub returns : goal.returns
returns c rules made fault few is = no-fault rules made fault few is
