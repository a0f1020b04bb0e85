use Rattle.std.proofs.Common.{◌≡◌, take}
use Rattle.lx_regs.proofs.folding.copied_ops.Given as goal

abbrev pub invariant-loop-op : goal.invariant-loop-op
invariant-loop-op l = l.copy ≡ take l.op-index l.ops
