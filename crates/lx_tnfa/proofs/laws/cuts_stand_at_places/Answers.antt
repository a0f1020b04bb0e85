use Rattle.lx_tnfa.proofs.Leaves.CutPlaces.{cut_place}
use Rattle.lx_tnfa.proofs.laws.cuts_stand_at_places.Goals as goal

pub returns : goal.returns
returns c = cut_place
