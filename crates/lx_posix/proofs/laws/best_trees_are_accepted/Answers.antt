use Rattle.lx_posix.proofs.Lists.ProgramLists.{accepted_best}
use Rattle.lx_posix.proofs.laws.best_trees_are_accepted.Goals as goal

pub returns : goal.returns
returns c enc patterns tnfa word of fits = accepted_best enc patterns tnfa of fits word
