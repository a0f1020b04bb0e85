use Rattle.std.proofs.Common.{◌≡◌, ◌+◌, ◌≤◌, length}
use Rattle.lx_posix.specs.Courses.{shared}
use Rattle.lx_posix.proofs.courses.shared.Given as goal

abbrev pub invariant-loop-index : goal.invariant-loop-index
invariant-loop-index l = record {
  even : length l.left + length l.other ≡ length l.others + length l.way;
  short : length l.left ≤ length l.way;
  counted : shared l.way l.other + length l.left ≡ length l.way + shared l.left l.others;
}

abbrev pub decreases-loop-index : goal.decreases-loop-index
decreases-loop-index l = length l.left
