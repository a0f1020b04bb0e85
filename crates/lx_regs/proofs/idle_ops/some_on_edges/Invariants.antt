use Rattle.std.proofs.Common.{◌≡◌, drop}
use Rattle.std.specs.List.{list_any}
use Rattle.lx_regs.specs.IdleOps.{some_itself}
use Rattle.lx_regs.proofs.idle_ops.some_on_edges.Given as goal

abbrev pub invariant-loop-edge : goal.invariant-loop-edge
invariant-loop-edge l = list_any some_itself (drop l.edge-index l.edges) ≡ list_any some_itself l.edges
