use Rattle.lx_creader.proofs.Cuts.{first_begin}
use Rattle.lx_creader.proofs.laws.first_begin_marks_stand_at_pieces.Goals as goal

pub returns : goal.returns
returns c = first_begin
