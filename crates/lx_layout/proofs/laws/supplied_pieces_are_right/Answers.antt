use Rattle.lx_layout.proofs.Supplied.SuppliedMatches.{supplied_right}
use Rattle.lx_layout.proofs.laws.supplied_pieces_are_right.Goals as goal

pub returns : goal.returns
returns c = supplied_right
