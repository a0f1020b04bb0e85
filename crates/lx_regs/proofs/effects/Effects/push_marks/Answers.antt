use Rattle.std.proofs.Common.{ap, ◌++◌, ◌∙◌, List, Bool, subst, sym}
use Rattle.std.proofs.lemmas.List.{append-nil}
use Rattle.lx_regs.specs.EffectIndexes.{CanLook}
use Rattle.lx_regs.proofs.Translations.OrderedOps.{marks_by-ascending}
use Rattle.lx_regs.proofs.effects.Effects.push_marks.Goals as goal

pub returns-in-Halves : goal.returns-in-Halves
returns-in-Halves c =
    let order = subst (λ look. CanLook c.self.inside.ops.now look) c.in-Halves.is c.self.invariant in
    rw (← c.self.view_is)
    (sym (ap (λ (marks : List Bool). c.args.marks.now ++ marks) (marks_by-ascending c.self.inside.ops.now c.args.mreg order) ∙ append-nil c.args.marks.now))
