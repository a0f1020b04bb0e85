use Rattle.lx_compile.proofs.FaultsPlaced.{IsFirstFault-placed}
use Rattle.lx_compile.proofs.laws.faults_stand_in_files_that_are_met.Goals as goal

pub returns : goal.returns
returns c = IsFirstFault-placed
