use Rattle.std.proofs.Common.{◌-◌, ◌≤◌, length, take, drop}
use Rattle.lx_class.specs.Ranges.{InRanges}
use Rattle.lx_class.proofs.ranges.holds_point.Given as goal

abbrev pub invariant-loop-low : goal.invariant-loop-low
invariant-loop-low l = record {
  ordered : l.low ≤ l.high;
  within : l.high ≤ length l.ranges;
  not_before : ¬ InRanges (take l.low l.ranges) l.point;
  not_after : ¬ InRanges (drop l.high l.ranges) l.point;
}

abbrev pub decreases-loop-low : goal.decreases-loop-low
decreases-loop-low l = l.high - l.low
