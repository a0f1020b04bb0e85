use Rattle.lx_split.proofs.ExpandedPieces.{expansion-sound}
use Rattle.lx_split.proofs.laws.pieces_with_includes_are_expanded.Goals as goal

pub returns : goal.returns
returns c = expansion-sound
