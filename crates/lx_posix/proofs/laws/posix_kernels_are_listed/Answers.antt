use Rattle.lx_posix.proofs.Lists.ProgramLists.{listed_kernel, some_kernel}
use Rattle.lx_posix.proofs.laws.posix_kernels_are_listed.Goals as goal

pub returns-clause-kernel : goal.returns-clause-kernel
returns-clause-kernel c enc patterns tnfa word of fits ne = listed_kernel enc patterns tnfa of fits word ne

pub returns-clause-some : goal.returns-clause-some
returns-clause-some c enc patterns tnfa word of fits = some_kernel enc patterns tnfa of fits word
