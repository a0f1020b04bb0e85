use Rattle.lx_tdfa.proofs.WordKernels.ProgramKernels.{kernel_after-kernel}
use Rattle.lx_tdfa.proofs.laws.kernels_are_listed.Goals as goal

pub returns : goal.returns
returns c enc patterns tnfa word of fits ne = kernel_after-kernel enc patterns tnfa of fits word ne
