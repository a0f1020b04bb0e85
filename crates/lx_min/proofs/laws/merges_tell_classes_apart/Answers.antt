use Rattle.lx_min.proofs.MergedApart.{AllAreToldApart-merged}
use Rattle.lx_min.proofs.laws.merges_tell_classes_apart.Goals as goal

pub returns : goal.returns
returns c = AllAreToldApart-merged
