use Rattle.lx_auto.proofs.Runs.{run-one_more}
use Rattle.lx_auto.proofs.laws.runs_go_on_by_steps.Goals as goal

pub returns : goal.returns
returns c = run-one_more
