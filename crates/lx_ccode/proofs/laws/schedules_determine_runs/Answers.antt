use Rattle.lx_ccode.proofs.RoundTrip.{statement_count-valid}
use Rattle.lx_ccode.proofs.RunSteps.{IsRun-run_of, IsRun-unique}
use Rattle.lx_ccode.proofs.laws.schedules_determine_runs.Goals as goal

pub returns : goal.returns
returns c = record {
  is_run = λ piece stream start cond schedule code valid entry. IsRun-run_of piece stream start cond schedule code (statement_count-valid piece valid) entry;
  no_other = IsRun-unique;
}
