use Rattle.lx_posix.proofs.Kernels.CountedKernels.{kernels_counted}
use Rattle.lx_posix.proofs.laws.found_kernels_are_counted.Goals as goal

pub returns : goal.returns
returns c enc rules words kernels are differ holds = kernels_counted enc rules words kernels are differ holds
