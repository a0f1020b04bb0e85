use Rattle.std.proofs.Common.{drop}
use Rattle.lx_regs.proofs.CutOperations.OnceWritten.{KeepsOn}
use Rattle.lx_regs.proofs.kept_lists.kept_in_order.Given as goal

abbrev pub invariant-loop-op : goal.invariant-loop-op
invariant-loop-op l = KeepsOn l.wanted l.ops l.kept (drop l.op-index l.ops)
