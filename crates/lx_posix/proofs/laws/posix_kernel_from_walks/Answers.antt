use Rattle.lx_posix.proofs.Kernels.PosixKernels.{posix_from_walks}
use Rattle.lx_posix.proofs.laws.posix_kernel_from_walks.Goals as goal

pub returns : goal.returns
returns c enc rules x w u kernel next is step = posix_from_walks enc rules x w u kernel next is step
