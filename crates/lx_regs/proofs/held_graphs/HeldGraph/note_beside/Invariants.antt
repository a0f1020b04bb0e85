use Rattle.std.proofs.Common.{take}
use Rattle.lx_regs.specs.HeldGraphs.{AreBeside, Notes}
use Rattle.lx_regs.proofs.held_graphs.HeldGraph.note_beside.Given as goal

abbrev pub invariant-loop-op : goal.invariant-loop-op
invariant-loop-op l = Notes (AreBeside (take l.op-index l.ops) l.live) l.fn.self l.self
