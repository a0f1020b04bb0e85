use Rattle.std.proofs.Common.{◌≡◌, List, ◌++◌, length}
use Rattle.lx_class.specs.declared.ranges.Range.{Range}
use Rattle.lx_exprs.specs.Points.{least_from}
use Rattle.lx_exprs.proofs.points.least_from.Given as goal

abbrev pub invariant-loop-range : goal.invariant-loop-range
invariant-loop-range l = (behind : List Range) × (l.ranges ≡ l.rest ++ behind) × (l.least ≡ least_from l.low behind)

abbrev pub decreases-loop-range : goal.decreases-loop-range
decreases-loop-range l = length l.rest
