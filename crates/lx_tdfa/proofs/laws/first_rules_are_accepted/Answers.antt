use Rattle.lx_tdfa.proofs.WordKernels.ProgramAccepts.{accept_after-accepts}
use Rattle.lx_tdfa.proofs.laws.first_rules_are_accepted.Goals as goal

pub returns : goal.returns
returns c enc patterns tnfa word of fits = accept_after-accepts enc patterns tnfa of fits word
