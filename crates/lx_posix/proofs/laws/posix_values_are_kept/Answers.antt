use Rattle.lx_posix.proofs.Lists.ProgramLists.{all_values, last_value}
use Rattle.lx_posix.proofs.laws.posix_values_are_kept.Goals as goal

pub returns-clause-last : goal.returns-clause-last
returns-clause-last c enc patterns tnfa word tag from entry rest of fits at =
    last_value enc patterns tnfa of fits word tag from entry rest at

pub returns-clause-all : goal.returns-clause-all
returns-clause-all c enc patterns tnfa word tag from entry rest of fits at =
    all_values enc patterns tnfa of fits word tag from entry rest at
