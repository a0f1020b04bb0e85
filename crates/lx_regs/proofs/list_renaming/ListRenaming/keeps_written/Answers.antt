use Rattle.std.proofs.Common.{ℕ, get_or, subst}
use Rattle.lx_auto.specs.declared.ops.Op.TheVariants.{Here}
use Rattle.lx_regs.specs.ListRenamings.{IsKept}
use Rattle.lx_regs.specs.OrderedOps.{number_of}
use Rattle.lx_regs.proofs.Translations.KeptLists.{each-more}
use Rattle.lx_regs.proofs.list_renaming.ListRenaming.keeps_written.Goals as goal

pub loop-op-preserved : goal.loop-op-preserved
loop-op-preserved c =
    let P : ℕ → Type 0 = IsKept c.args.self.now.names.items c.args.ops.now c.args.others.now in
    each-more (λ place. P (number_of (get_or c.args.ops.now place (Here 0)))) c.loop-op.op-index c.loop-op.invariant
    (subst P c.number_of-reg.ensures (c.keeps.ensures c.if-not-keeps.false))
