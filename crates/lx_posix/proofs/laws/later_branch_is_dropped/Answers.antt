use Rattle.lx_posix.proofs.Searches.DroppedBranches.{dropped_branch}
use Rattle.lx_posix.proofs.laws.later_branch_is_dropped.Goals as goal

pub returns : goal.returns
returns c enc rules word unit cut common first second rest more lesser greater m state reads less mark quiet one two goes ends own keeps =
    dropped_branch enc rules word unit cut common first second rest more lesser greater m state reads less mark quiet one two goes ends own
    keeps
