use Rattle.lx_creader.proofs.Cuts.{AreCut-one}
use Rattle.lx_creader.proofs.laws.outputs_are_cut_in_one_way.Goals as goal

pub returns : goal.returns
returns c = AreCut-one
