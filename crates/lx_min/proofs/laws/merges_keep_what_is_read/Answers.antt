use Rattle.lx_min.proofs.MergedReads.{EachTargetIsRead-merged}
use Rattle.lx_min.proofs.laws.merges_keep_what_is_read.Goals as goal

pub returns : goal.returns
returns c = EachTargetIsRead-merged
