use Rattle.std.proofs.Common.{ℕ, ◌≤◌, drop}
use Rattle.lx_class.specs.Ranges.{InRanges}
use Rattle.lx_encode.proofs.policies.least_within.Given as goal

abbrev pub invariant-loop-range : goal.invariant-loop-range
invariant-loop-range l = (point : ℕ) → InRanges l.set point → l.from ≤ point → InRanges (drop l.range-index l.set) point
