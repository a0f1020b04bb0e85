use Rattle.lx_regs.specs.ListRenamings.{AreMembers}
use Rattle.lx_regs.proofs.list_renaming.members_of.Given as goal

abbrev pub invariant-loop-reg : goal.invariant-loop-reg
invariant-loop-reg l = AreMembers l.reg l.count l.names l.members.items
