use Rattle.lx_auto.proofs.Runs.{run_stays}
use Rattle.lx_auto.proofs.laws.runs_stay_within_the_automaton.Goals as goal

pub returns : goal.returns
returns c = run_stays
