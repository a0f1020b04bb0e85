use Rattle.std.proofs.Common.{All, take}
use Rattle.lx_regs.specs.ListRenamings.{IsKept}
use Rattle.lx_regs.proofs.list_renaming.ListRenaming.keeps_all.Given as goal

abbrev pub invariant-loop-reg : goal.invariant-loop-reg
invariant-loop-reg l = All (IsKept l.self.names.items l.ops l.others) (take l.reg-index l.registers)
