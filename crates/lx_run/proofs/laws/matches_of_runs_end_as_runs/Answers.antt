use Rattle.lx_run.proofs.RunStarts.{EndsAsRun-of, MayStart-of, holds_all-headless}
use Rattle.lx_run.proofs.laws.matches_of_runs_end_as_runs.Goals as goal

pub returns : goal.returns
returns c = record {
  start = λ piece reading between step supplied of. MayStart-of piece reading step supplied between of;
  run = λ piece reading between valid step supplied of end. EndsAsRun-of piece reading step supplied between valid of end;
  headless = holds_all-headless;
}
