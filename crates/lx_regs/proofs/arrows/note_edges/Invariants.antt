use Rattle.std.proofs.Common.{take}
use Rattle.lx_regs.specs.Arrows.{Notes}
use Rattle.lx_regs.proofs.arrows.note_edges.Given as goal

abbrev pub invariant-loop-edge : goal.invariant-loop-edge
invariant-loop-edge l = Notes l.state (take l.edge-index l.edges) l.initial.lists.items l.lists.items
