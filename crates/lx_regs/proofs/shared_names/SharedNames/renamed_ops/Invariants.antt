use Rattle.std.proofs.Common.{◌≡◌, take}
use Rattle.lx_regs.specs.SharedNames.{names_of, renamed_ops}
use Rattle.lx_regs.proofs.shared_names.SharedNames.renamed_ops.Given as goal

abbrev pub invariant-loop-op : goal.invariant-loop-op
invariant-loop-op l = l.answer ≡ renamed_ops (names_of l.self) (take l.op-index l.ops)
