use Rattle.lx_ccode.proofs.RoundTrip.{BeginsWithPiece-read}
use Rattle.lx_ccode.proofs.laws.reading_finds_the_piece.Goals as goal

pub returns : goal.returns
returns c = BeginsWithPiece-read
