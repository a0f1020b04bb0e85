use Rattle.std.proofs.Common.{ℕ, ◌≤◌, length, take, drop}
use Rattle.lx_class.specs.Ranges.{InRanges, IsCanonical, IsDifference}
use Rattle.lx_class.specs.Bounds.{BeginBy, EndBefore}
use Rattle.lx_class.proofs.ranges.difference_of.Given as goal

abbrev pub invariant-loop-range : goal.invariant-loop-range
invariant-loop-range l = record {
  within : l.place ≤ length l.holes;
  canonical : IsCanonical l.left.items;
  in_turn : (point : ℕ) → InRanges (drop l.range-index l.ranges) point → BeginBy l.left.items point;
  passed : (point : ℕ) → InRanges (drop l.range-index l.ranges) point → EndBefore (take l.place l.holes) point;
  points : IsDifference (take l.range-index l.ranges) l.holes l.left.items;
}
