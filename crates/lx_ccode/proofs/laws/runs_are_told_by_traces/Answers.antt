use Rattle.lx_ccode.proofs.RoundTrip.{statement_count-valid}
use Rattle.lx_ccode.proofs.RunSteps.{IsRun-run_of, loop_count-some}
use Rattle.lx_ccode.proofs.Traces.{IsTold-run, IsTold-unique}
use Rattle.lx_ccode.specs.Runs.{fresh_machine, run_of}
use Rattle.lx_ccode.proofs.laws.runs_are_told_by_traces.Goals as goal

pub returns : goal.returns
returns c = record {
  told = λ piece stream start cond schedule code valid entry.
      IsTold-run piece stream start code (fresh_machine start schedule.first cond) schedule.answers (run_of piece stream start cond schedule)
      (loop_count-some piece start schedule.first (statement_count-valid piece valid))
      (IsRun-run_of piece stream start cond schedule code (statement_count-valid piece valid) entry);
  no_other = IsTold-unique;
}
