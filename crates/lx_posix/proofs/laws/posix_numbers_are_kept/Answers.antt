use Rattle.lx_posix.proofs.Lists.ProgramLists.{listed_numbers}
use Rattle.lx_posix.proofs.laws.posix_numbers_are_kept.Goals as goal

pub returns : goal.returns
returns c enc patterns tnfa word i j cut other of fits lt h k same = listed_numbers enc patterns tnfa of fits word i j cut other lt h k same
