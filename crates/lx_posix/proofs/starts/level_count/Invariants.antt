use Rattle.std.proofs.Common.{ℕ, ◌<◌}
use Rattle.lx_posix.specs.Sweeps.{level_at}
use Rattle.lx_posix.proofs.starts.level_count.Given as goal

abbrev pub invariant-loop-index : goal.invariant-loop-index
invariant-loop-index l = record {
  some : 0 < l.count;
  more : (index : ℕ) → index < l.index → level_at l.beginnings index < l.count;
}
