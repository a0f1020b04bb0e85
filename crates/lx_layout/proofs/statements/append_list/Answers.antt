use Rattle.std.proofs.Common.{arith, subst, sym, ◌∙◌}
use Rattle.lx_layout.specs.Numbers.{AreBelow}
use Rattle.lx_layout.proofs.Operations.SequenceBounds.{AreBelow-sequentialized, AreOps-AreBelow}
use Rattle.lx_layout.proofs.statements.append_list.Goals as goal

pub append_ops-requires : goal.append_ops-requires
append_ops-requires c =
    subst (λ l. AreBelow 4294967295 l) (sym (c.deref.ensures.value ∙ c.in_ok-list.ensures.list))
    (AreBelow-sequentialized 4294967295 c.args.auto.now.regs c.args.auto.now.mregs c.args.ops.now (omega (arith, c.requires.few))
    (AreOps-AreBelow 4294967295 c.args.auto.now.regs c.args.auto.now.mregs c.args.ops.now (omega (arith, c.requires.few)) c.requires.there))
