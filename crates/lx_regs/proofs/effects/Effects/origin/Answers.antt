use Rattle.std.proofs.Common.{subst, sym}
use Rattle.lx_regs.specs.EffectIndexes.{CanLook}
use Rattle.lx_regs.proofs.Translations.OrderedOps.{origin_after-ascending}
use Rattle.lx_regs.proofs.effects.Effects.origin.Goals as goal

pub returns-in-Halves : goal.returns-in-Halves
returns-in-Halves c =
    let order = subst (λ look. CanLook c.self.inside.ops.now look) c.in-Halves.is c.self.invariant in
    rw (← c.self.view_is) (sym (origin_after-ascending c.self.inside.ops.now c.args.mreg order))
