use Rattle.std.proofs.Common.{ℕ, ◌+◌, ◌-◌, ◌≤◌, length, take, drop}
use Rattle.lx_class.specs.Ranges.{InRanges, IsCanonical, IsUnion}
use Rattle.lx_class.specs.Bounds.{BeginBy}
use Rattle.lx_class.proofs.ranges.union_of.Given as goal

abbrev pub invariant-loop-i : goal.invariant-loop-i
invariant-loop-i l = record {
  within_left : l.i ≤ length l.left;
  within_right : l.j ≤ length l.right;
  canonical : IsCanonical l.ranges.items;
  left_in_turn : (point : ℕ) → InRanges (drop l.i l.left) point → BeginBy l.ranges.items point;
  right_in_turn : (point : ℕ) → InRanges (drop l.j l.right) point → BeginBy l.ranges.items point;
  points : IsUnion (take l.i l.left) (take l.j l.right) l.ranges.items;
}

abbrev pub decreases-loop-i : goal.decreases-loop-i
decreases-loop-i l = (length l.left - l.i) + (length l.right - l.j)
