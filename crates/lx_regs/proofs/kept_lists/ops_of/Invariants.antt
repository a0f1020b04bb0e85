use Rattle.std.proofs.Common.{◌≡◌, take}
use Rattle.lx_regs.proofs.kept_lists.ops_of.Given as goal

abbrev pub invariant-loop-op : goal.invariant-loop-op
invariant-loop-op l = l.ops ≡ take l.op-index l.items
