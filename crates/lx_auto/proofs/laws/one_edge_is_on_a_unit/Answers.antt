use Rattle.lx_auto.proofs.OneEdge.{one_edge}
use Rattle.lx_auto.proofs.laws.one_edge_is_on_a_unit.Goals as goal

pub returns : goal.returns
returns c = one_edge
