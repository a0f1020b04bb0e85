use Rattle.std.proofs.Common.{take}
use Rattle.lx_regs.specs.HeldGraphs.{AreAmong, Notes}
use Rattle.lx_regs.proofs.held_graphs.HeldGraph.note_each.Given as goal

abbrev pub invariant-loop-other : goal.invariant-loop-other
invariant-loop-other l = Notes (AreAmong l.held (take l.other-index l.others)) l.fn.self l.self
