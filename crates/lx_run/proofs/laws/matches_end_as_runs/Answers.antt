use Rattle.lx_run.proofs.MatchRuns.{EndsAsRun-match}
use Rattle.lx_run.proofs.laws.matches_end_as_runs.Goals as goal

pub returns : goal.returns
returns c = EndsAsRun-match
