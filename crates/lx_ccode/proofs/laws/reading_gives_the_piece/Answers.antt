use Rattle.lx_ccode.proofs.RoundTrip.{piece_at-text}
use Rattle.lx_ccode.proofs.laws.reading_gives_the_piece.Goals as goal

pub returns : goal.returns
returns c = piece_at-text
