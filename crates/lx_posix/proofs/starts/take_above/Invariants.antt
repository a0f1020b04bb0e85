use Rattle.std.proofs.Common.{◌≡◌, ◌++◌, ◌-◌}
use Rattle.lx_posix.specs.Sweeps.{emptied_above, starts_above}
use Rattle.lx_posix.proofs.starts.take_above.Given as goal

abbrev pub invariant-loop-level : goal.invariant-loop-level
invariant-loop-level l = record {
  found : l.found.items ++ starts_above l.levels l.lowest (l.level - l.lowest)
      ≡ l.fn.found.items ++ starts_above l.initial.levels l.lowest (l.end - l.lowest);
  levels : emptied_above l.levels l.lowest (l.level - l.lowest) ≡ emptied_above l.initial.levels l.lowest (l.end - l.lowest);
}
