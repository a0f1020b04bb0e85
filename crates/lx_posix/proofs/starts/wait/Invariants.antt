use Rattle.std.proofs.Common.{◌≡◌}
use Rattle.lx_posix.specs.Sweeps.{with_place}
use Rattle.lx_posix.proofs.starts.wait.Given as goal

abbrev pub invariant-loop-level : goal.invariant-loop-level
invariant-loop-level l = l.levels ≡ with_place l.initial.levels l.place l.level
