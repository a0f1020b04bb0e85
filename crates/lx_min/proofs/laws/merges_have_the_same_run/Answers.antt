use Rattle.lx_min.proofs.MergedRuns.{HasSameRun-merged}
use Rattle.lx_min.proofs.laws.merges_have_the_same_run.Goals as goal

pub returns : goal.returns
returns c = HasSameRun-merged
