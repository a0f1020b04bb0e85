use Rattle.lx_layout.proofs.Validity.LayoutLaws.{run_of-fresh}
use Rattle.lx_layout.proofs.laws.fresh_machines_hold_nothing.Goals as goal

pub returns : goal.returns
returns c = run_of-fresh
