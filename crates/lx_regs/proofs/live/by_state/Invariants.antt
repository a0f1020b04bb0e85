use Rattle.std.proofs.Common.{take}
use Rattle.lx_regs.specs.Liveness.{AreSorted}
use Rattle.lx_regs.proofs.live.by_state.Given as goal

abbrev pub invariant-loop-item : goal.invariant-loop-item
invariant-loop-item l = AreSorted l.count (take l.item-index l.items) l.lists.items
