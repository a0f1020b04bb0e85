use Rattle.lx_posix.proofs.Lists.ProgramLists.{alike_lists}
use Rattle.lx_posix.proofs.laws.equal_ranks_are_equal_posix_kernels.Goals as goal

pub returns : goal.returns
returns c enc patterns tnfa word other of fits ne ne' = alike_lists enc patterns tnfa of fits word other ne ne'
