use Rattle.lx_compile.proofs.OutputCuts.{cut-output}
use Rattle.lx_compile.proofs.laws.outputs_are_cut_as_their_sources.Goals as goal

pub returns : goal.returns
returns c = cut-output
