use Rattle.std.proofs.Common.{◌≤◌, drop, length}
use Rattle.lx_sequence.specs.CopyOps.{AreMarksBehind}
use Rattle.lx_sequence.proofs.sequences.marks_of.Given as goal

abbrev pub invariant-loop-place : goal.invariant-loop-place
invariant-loop-place l = (l.place ≤ length l.ops) × AreMarksBehind l.later l.list.items (drop l.place l.ops)

abbrev pub decreases-loop-place : goal.decreases-loop-place
decreases-loop-place l = l.place
