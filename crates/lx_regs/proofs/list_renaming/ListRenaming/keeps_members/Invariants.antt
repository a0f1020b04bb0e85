use Rattle.std.proofs.Common.{ℕ, ◌<◌, All, get_or}
use Rattle.lx_auto.specs.declared.ops.Op.TheVariants.{Here}
use Rattle.lx_regs.specs.ListRenamings.{IsKept, members_at}
use Rattle.lx_regs.specs.OrderedOps.{number_of}
use Rattle.lx_regs.proofs.list_renaming.ListRenaming.keeps_members.Given as goal

abbrev pub invariant-loop-op : goal.invariant-loop-op
invariant-loop-op l =
    (place : ℕ) → place < l.op-index
    → All (IsKept l.self.names.items l.ops l.others) (members_at l.self.members.items (number_of (get_or l.others place (Here 0))))
