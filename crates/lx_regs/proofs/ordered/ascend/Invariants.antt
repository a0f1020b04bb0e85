use Rattle.std.proofs.Common.{drop}
use Rattle.lx_regs.specs.OrderedOps.{Ascend, AscendFrom}
use Rattle.lx_regs.proofs.ordered.ascend.Given as goal

abbrev pub invariant-loop-op : goal.invariant-loop-op
invariant-loop-op l = AscendFrom l.least (drop l.op-index l.ops) → Ascend l.ops
