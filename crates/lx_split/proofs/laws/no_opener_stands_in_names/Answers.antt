use Rattle.lx_split.proofs.CleanNames.{expansion-clean}
use Rattle.lx_split.proofs.laws.no_opener_stands_in_names.Goals as goal

pub returns : goal.returns
returns c = expansion-clean
