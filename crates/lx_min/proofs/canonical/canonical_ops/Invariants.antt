use Rattle.std.proofs.Common.{◌≡◌, ◌++◌, drop}
use Rattle.std.specs.List.{flat_map}
use Rattle.lx_min.specs.Canonical.{canonical, ops_on}
use Rattle.lx_min.proofs.canonical.canonical_ops.Given as goal

abbrev pub invariant-loop-held : goal.invariant-loop-held
invariant-loop-held l = l.list.items ++ flat_map (ops_on l.ops) (drop l.held-index l.held-items) ≡ canonical l.ops
