use Rattle.lx_min.proofs.MergedStates.{StaysWithin-merged}
use Rattle.lx_min.proofs.laws.merges_stay_within.Goals as goal

pub returns : goal.returns
returns c = StaysWithin-merged
