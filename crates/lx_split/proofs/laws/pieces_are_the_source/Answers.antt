use Rattle.lx_split.proofs.Cutting.{pieces_of-cut}
use Rattle.lx_split.proofs.laws.pieces_are_the_source.Goals as goal

pub returns : goal.returns
returns c = pieces_of-cut
