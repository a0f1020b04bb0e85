use Rattle.lx_min.proofs.Merges.{IsMet-merged}
use Rattle.lx_min.proofs.laws.merges_have_walks_to_each_state.Goals as goal

pub returns : goal.returns
returns c = λ given answer classes state is formed within. IsMet-merged given answer classes is formed state within
