use Rattle.std.proofs.Common.{◌≡◌, drop}
use Rattle.lx_min.specs.Canonical.{targets_of, targets_onto}
use Rattle.lx_min.proofs.canonical.targets_of.Given as goal

abbrev pub invariant-loop-op : goal.invariant-loop-op
invariant-loop-op l = targets_onto l.targets.items (drop l.op-index l.ops) ≡ targets_of l.ops
