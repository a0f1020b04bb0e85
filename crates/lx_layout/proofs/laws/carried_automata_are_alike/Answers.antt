use Rattle.lx_layout.proofs.Runs.CarriedMatches.{carried_alike}
use Rattle.lx_layout.proofs.laws.carried_automata_are_alike.Goals as goal

pub returns : goal.returns
returns c = carried_alike
