use Rattle.lx_min.proofs.MergedReads.{AllInterfere-merged}
use Rattle.lx_min.proofs.laws.merges_keep_interference.Goals as goal

pub returns : goal.returns
returns c = AllInterfere-merged
