use Rattle.std.proofs.Common.{ℕ, ◌<◌, get_or}
use Rattle.lx_auto.specs.declared.ops.Op.TheVariants.{Here}
use Rattle.lx_regs.specs.ListRenamings.{IsKept}
use Rattle.lx_regs.specs.OrderedOps.{number_of}
use Rattle.lx_regs.proofs.list_renaming.ListRenaming.keeps_written.Given as goal

abbrev pub invariant-loop-op : goal.invariant-loop-op
invariant-loop-op l =
    (place : ℕ) → place < l.op-index → IsKept l.self.names.items l.ops l.others (number_of (get_or l.ops place (Here 0)))
