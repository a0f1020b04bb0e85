use Rattle.lx_posix.proofs.Kernels.ListedKernels.{each_kernel, listed_step}
use Rattle.lx_posix.proofs.laws.listed_cuts_have_a_kernel.Goals as goal

pub returns-clause-step : goal.returns-clause-step
returns-clause-step c enc rules word unit kernel listed are decided = listed_step enc rules word unit kernel listed are decided

pub returns-clause-each : goal.returns-clause-each
returns-clause-each c enc rules decided lists word = each_kernel enc rules decided lists word
