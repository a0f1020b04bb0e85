use Rattle.lx_tdfa.proofs.WordKernels.ProgramAccepts.{last_accepted}
use Rattle.lx_tdfa.proofs.laws.last_values_are_kept.Goals as goal

pub returns : goal.returns
returns c enc patterns tnfa word tag from way entry of fits nth accepted =
    last_accepted enc patterns tnfa of fits word tag from way entry nth accepted
