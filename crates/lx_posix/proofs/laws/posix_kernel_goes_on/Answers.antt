use Rattle.lx_posix.proofs.Kernels.PosixKernels.{posix_goes_on, posix_source}
use Rattle.lx_posix.proofs.laws.posix_kernel_goes_on.Goals as goal

pub returns-clause-source : goal.returns-clause-source
returns-clause-source c enc rules x w u kernel next is next_is i k at = posix_source enc rules x w u kernel next is next_is i k at

pub returns-clause-whole : goal.returns-clause-whole
returns-clause-whole c enc rules x w o v u kernel other next other_next is other_is same next_is other_next_is =
    posix_goes_on enc rules x w o v u kernel other next other_next is other_is same next_is other_next_is
