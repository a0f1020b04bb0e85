use Rattle.lx_split.proofs.Faults.{pieces_of-fault}
use Rattle.lx_split.proofs.laws.faults_stand_in_the_source.Goals as goal

pub returns : goal.returns
returns c = pieces_of-fault
