use Rattle.lx_step.proofs.CallRuns.{EndsAsRun-calls}
use Rattle.lx_step.proofs.CallSchedules.{IsLegal-calls}
use Rattle.lx_step.proofs.laws.left_matches_end_as_runs.Goals as goal

pub returns : goal.returns
returns c = record { run = EndsAsRun-calls; legal = IsLegal-calls }
