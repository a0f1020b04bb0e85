use Rattle.std.proofs.Common.{◌≤◌, drop, length, reverse}
use Rattle.lx_regs.specs.Dead.{KeepsWanted}
use Rattle.lx_regs.specs.HeldSets.{Has}
use Rattle.lx_regs.specs.KeptLists.{AreWritten}
use Rattle.lx_regs.proofs.kept_lists.kept_from_end.Given as goal

abbrev pub invariant-loop-place : goal.invariant-loop-place
invariant-loop-place l = record {
  within : l.place ≤ length l.ops;
  written : AreWritten l.written (drop l.place l.ops);
  kept : KeepsWanted (Has l.wanted) (drop l.place l.ops) (reverse l.kept.items);
}

abbrev pub decreases-loop-place : goal.decreases-loop-place
decreases-loop-place l = l.place
