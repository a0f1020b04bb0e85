use Rattle.std.proofs.Common.{◌≡◌, drop}
use Rattle.std.specs.List.{list_any}
use Rattle.lx_auto.specs.Effects.{copies_itself}
use Rattle.lx_regs.proofs.idle_ops.some_of_ops.Given as goal

abbrev pub invariant-loop-op : goal.invariant-loop-op
invariant-loop-op l = list_any copies_itself (drop l.op-index l.ops) ≡ list_any copies_itself l.ops
