use Rattle.std.proofs.Common.{◌≡◌, take}
use Rattle.lx_encode.proofs.PointRuns.{ended_runs}
use Rattle.lx_encode.proofs.runs.point_runs.Given as goal

abbrev pub invariant-loop-range : goal.invariant-loop-range
invariant-loop-range l = l.runs.items ≡ ended_runs (take l.range-index l.ranges)
