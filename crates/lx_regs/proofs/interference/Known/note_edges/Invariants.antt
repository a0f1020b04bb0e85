use Rattle.std.proofs.Common.{take}
use Rattle.lx_regs.specs.HeldGraphs.{Notes}
use Rattle.lx_regs.specs.Interference.{AreBesideOnEdges}
use Rattle.lx_regs.proofs.interference.Known.note_edges.Given as goal

abbrev pub invariant-loop-edge : goal.invariant-loop-edge
invariant-loop-edge l =
    Notes (AreBesideOnEdges l.self.auto.now l.state (take l.edge-index l.edge-items)) l.fn.graph l.graph
