use Rattle.lx_regs.specs.ListRenamings.{AreFixedNames}
use Rattle.lx_regs.proofs.list_renaming.fixed_names.Given as goal

abbrev pub invariant-loop-reg : goal.invariant-loop-reg
invariant-loop-reg l = AreFixedNames l.table l.count l.reg l.names.items
