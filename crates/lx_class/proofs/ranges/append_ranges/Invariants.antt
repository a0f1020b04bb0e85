use Rattle.std.proofs.Common.{ℕ, take, drop}
use Rattle.lx_class.specs.Ranges.{InRanges, IsCanonical, IsUnion}
use Rattle.lx_class.specs.Bounds.{BeginBy}
use Rattle.lx_class.proofs.ranges.append_ranges.Given as goal

abbrev pub invariant-loop-range : goal.invariant-loop-range
invariant-loop-range l = record {
  canonical : IsCanonical l.ranges.items;
  in_turn : (point : ℕ) → InRanges (drop l.range-index l.rest) point → BeginBy l.ranges.items point;
  points : IsUnion l.initial.ranges.items (take l.range-index l.rest) l.ranges.items;
  begin : (point : ℕ) → BeginBy l.initial.ranges.items point → BeginBy l.rest point → BeginBy l.ranges.items point;
}
