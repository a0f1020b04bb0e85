use Rattle.lx_compile.proofs.FoundPieces.{is_found}
use Rattle.lx_compile.proofs.laws.emitted_pieces_are_found.Goals as goal

pub returns : goal.returns
returns c = is_found
