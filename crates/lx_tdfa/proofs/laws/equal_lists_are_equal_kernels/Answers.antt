use Rattle.lx_tdfa.proofs.WordKernels.ProgramKernels.{kernel_after-alike}
use Rattle.lx_tdfa.proofs.laws.equal_lists_are_equal_kernels.Goals as goal

pub returns : goal.returns
returns c enc patterns tnfa word other of fits ne ne' = kernel_after-alike enc patterns tnfa of fits word other ne ne'
