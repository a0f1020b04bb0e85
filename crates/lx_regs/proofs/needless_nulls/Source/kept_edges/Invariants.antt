use Rattle.std.proofs.Common.{take}
use Rattle.lx_regs.specs.Pairs.{AllPairs}
use Rattle.lx_regs.specs.Unset.{IsEdgeKept}
use Rattle.lx_regs.proofs.needless_nulls.Source.kept_edges.Given as goal

abbrev pub invariant-loop-edge : goal.invariant-loop-edge
invariant-loop-edge l = AllPairs (IsEdgeKept l.self.rows.now l.left) (take l.edge-index l.edges) l.others
