use Rattle.std.proofs.Common.{◌∙◌, sym, arith}
use Rattle.lx_auto.specs.declared.ops.Op.TheVariants.{Here}
use Rattle.lx_regs.proofs.Translations.OrderedOps.{written-at}
use Rattle.lx_regs.proofs.ordered.single_near.Goals as goal

pub returns-then-number_of-reg : goal.returns-then-number_of-reg
returns-then-number_of-reg c =
    c.single_behind.ensures
    ∙ sym (written-at c.args.ops.now c.args.place (Here 0) c.if-place-ops.true c.requires c.args.reg
    (omega (arith, c.if-number_of-reg.true, c.number_of.ensures)))
