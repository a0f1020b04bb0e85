use Rattle.std.proofs.Common.{ℕ, ◌-◌, ◌<◌, ◌≤◌, ◌⊎◌, ◌↔◌, length, take}
use Rattle.lx_class.specs.Ranges.{InRanges, IsCanonical}
use Rattle.lx_class.specs.Bounds.{BeginBy, EndBefore}
use Rattle.lx_class.proofs.ranges.append_uncovered.Given as goal

abbrev pub invariant-loop-place : goal.invariant-loop-place
invariant-loop-place l = record {
  from : l.range.lo ≤ l.lo;
  to : l.lo ≤ l.range.hi;
  within : l.place ≤ length l.holes;
  canonical : IsCanonical l.ranges.items;
  in_turn : BeginBy l.ranges.items l.lo;
  passed : EndBefore (take l.place l.holes) l.lo;
  points : (point : ℕ) → InRanges l.ranges.items point ↔
      (InRanges l.initial.ranges.items point ⊎ ((l.range.lo ≤ point) × (point < l.lo) × ¬ InRanges l.holes point));
}

abbrev pub decreases-loop-place : goal.decreases-loop-place
decreases-loop-place l = length l.holes - l.place
