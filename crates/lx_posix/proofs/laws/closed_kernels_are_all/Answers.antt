use Rattle.lx_posix.proofs.Kernels.ClosedKernels.{closed_all}
use Rattle.lx_posix.proofs.laws.closed_kernels_are_all.Goals as goal

pub returns : goal.returns
returns c enc rules words kernels start each are closed first = closed_all enc rules words kernels start each are closed first
