use Rattle.std.proofs.Common.{◌≡◌, ◌≤◌, ◌-◌, false, length, replicate}
use Rattle.lx_ccode.proofs.labels.none_of.Given as goal

abbrev pub invariant-loop-labels : goal.invariant-loop-labels
invariant-loop-labels l = (l.labels.items ≡ replicate (length l.labels.items) false) × (length l.labels.items ≤ l.count)

abbrev pub decreases-loop-labels : goal.decreases-loop-labels
decreases-loop-labels l = l.count - length l.labels.items
