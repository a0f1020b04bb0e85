use Rattle.lx_posix.proofs.Lists.CountedRanks.{all_ranks, many_ranks}
use Rattle.lx_posix.proofs.laws.ranks_are_counted.Goals as goal

pub returns-clause-many : goal.returns-clause-many
returns-clause-many c enc patterns tnfa words of fits differ many = many_ranks enc patterns tnfa of fits words differ many

pub returns-clause-all : goal.returns-clause-all
returns-clause-all c enc patterns tnfa words of fits differ all = all_ranks enc patterns tnfa of fits words differ all
