use Rattle.lx_regex.proofs.laws.kernel_is_unique.Goals as goal
use Rattle.lx_regex.proofs.KernelCuts.Kernels.{kernel_is_unique}
use Rattle.lx_regex.proofs.Trees.Beginnings.{kernel_begins}

pub returns-clause-unique : goal.returns-clause-unique
returns-clause-unique c enc rules word kernel other is is' = kernel_is_unique enc rules word kernel other is is'

pub returns-clause-begins : goal.returns-clause-begins
returns-clause-begins c enc rules word kernel is = kernel_begins enc rules word kernel is
