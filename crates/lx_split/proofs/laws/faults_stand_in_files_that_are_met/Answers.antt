use Rattle.lx_split.proofs.ExpandedPieces.{expansion-placed}
use Rattle.lx_split.proofs.laws.faults_stand_in_files_that_are_met.Goals as goal

pub returns : goal.returns
returns c = expansion-placed
