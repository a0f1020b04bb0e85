use Rattle.std.proofs.Common.{take}
use Rattle.lx_regs.specs.Liveness.{AreMarked}
use Rattle.lx_regs.proofs.live.marks_of.Given as goal

abbrev pub invariant-loop-pair : goal.invariant-loop-pair
invariant-loop-pair l = AreMarked l.count (take l.pair-index l.pairs) l.marks.items
