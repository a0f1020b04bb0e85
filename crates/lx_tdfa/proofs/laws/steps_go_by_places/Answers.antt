use Rattle.lx_tdfa.proofs.WordKernels.ProgramKernels.{kernel_after-step}
use Rattle.lx_tdfa.proofs.laws.steps_go_by_places.Goals as goal

pub returns : goal.returns
returns c tnfa rules word unit = kernel_after-step tnfa rules word unit
