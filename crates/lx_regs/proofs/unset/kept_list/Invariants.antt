use Rattle.std.proofs.Common.{take}
use Rattle.lx_regs.specs.Unset.{IsKept}
use Rattle.lx_regs.proofs.unset.kept_list.Given as goal

abbrev pub invariant-loop-op : goal.invariant-loop-op
invariant-loop-op l = IsKept l.before l.kept.unset.items (take l.op-index l.ops) l.kept.ops
