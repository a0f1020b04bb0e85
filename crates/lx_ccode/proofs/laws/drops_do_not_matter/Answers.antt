use Rattle.lx_ccode.proofs.Drops.{IsLegal-without_drops, run_of-without_drops}
use Rattle.lx_ccode.proofs.laws.drops_do_not_matter.Goals as goal

pub returns : goal.returns
returns c = record { run = run_of-without_drops; legal = IsLegal-without_drops }
