use Rattle.lx_rules.proofs.Blocks.FaultPlaces.{block_fault-place}
use Rattle.lx_rules.proofs.laws.block_faults_stand_in_the_file_of_the_opener.Goals as goal

pub returns : goal.returns
returns c = λ options at start environment kind body tokens items fault has same tokens_are items_are found.
    block_fault-place options at start environment kind has body tokens items fault same tokens_are items_are found
