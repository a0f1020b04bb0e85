use Rattle.lx_tdfa.proofs.WordKernels.ProgramKernels.{kernel_after-empty}
use Rattle.lx_tdfa.proofs.laws.empty_lists_begin_no_match.Goals as goal

pub returns : goal.returns
returns c enc patterns tnfa word of fits ne = kernel_after-empty enc patterns tnfa of fits word ne
