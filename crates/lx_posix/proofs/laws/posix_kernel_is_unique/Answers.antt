use Rattle.lx_posix.proofs.Kernels.PosixKernels.{posix_unique}
use Rattle.lx_posix.proofs.laws.posix_kernel_is_unique.Goals as goal

pub returns : goal.returns
returns c enc rules word kernel other is is' = posix_unique enc rules word kernel other is is'
