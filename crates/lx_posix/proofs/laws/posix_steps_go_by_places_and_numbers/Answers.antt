use Rattle.lx_posix.proofs.Lists.ProgramLists.{kernels_go_on, ranks_go_on}
use Rattle.lx_posix.proofs.laws.posix_steps_go_by_places_and_numbers.Goals as goal

pub returns-clause-ranks : goal.returns-clause-ranks
returns-clause-ranks c tnfa rules word unit = ranks_go_on tnfa rules word unit

pub returns-clause-entries : goal.returns-clause-entries
returns-clause-entries c tnfa rules word unit = kernels_go_on tnfa rules word unit
