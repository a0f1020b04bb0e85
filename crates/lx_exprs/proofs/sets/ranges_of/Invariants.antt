use Rattle.std.proofs.Common.{◌≡◌, map, take}
use Rattle.lx_exprs.specs.Checks.{range_of}
use Rattle.lx_exprs.proofs.sets.ranges_of.Given as goal

abbrev pub invariant-loop-range : goal.invariant-loop-range
invariant-loop-range l = l.ranges.items ≡ map range_of (take l.range-index l.written)
