use Rattle.lx_posix.proofs.Kernels.FirstUnit.{first_kernel, first_source}
use Rattle.lx_posix.proofs.laws.first_unit_is_from_beginnings.Goals as goal

pub returns-clause-kernel : goal.returns-clause-kernel
returns-clause-kernel c enc rules unit next step = first_kernel enc rules unit next step

pub returns-clause-source : goal.returns-clause-source
returns-clause-source c enc rules unit next is i cut at = first_source enc rules unit next is i cut at
