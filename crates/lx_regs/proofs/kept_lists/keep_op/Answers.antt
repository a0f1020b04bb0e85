use Rattle.std.proofs.Common.{◌∷◌, reverse, sym, ◌∙◌, subst}
use Rattle.lx_regs.specs.Dead.{KeepsWanted}
use Rattle.lx_regs.specs.HeldSets.{Has}
use Rattle.lx_regs.proofs.CutOperations.KeptSteps.{kept-goes, kept-stays}
use Rattle.lx_regs.proofs.kept_lists.keep_op.Goals as goal

pub returns-in_ok-push-clause-kept : goal.returns-in_ok-push-clause-kept
returns-in_ok-push-clause-kept c = λ ops are keeps.
    subst (λ items. KeepsWanted (Has c.args.wanted.now) (c.args.op ∷ ops) (reverse items)) (sym c.in_ok-push.ensures.items)
    (kept-stays c.args.wanted.now c.args.op ops c.args.kept.now.items keeps (sym c.if-branch.true ∙ c.in_ok-acts.ensures.acts ops are))

pub returns-else-branch-clause-kept : goal.returns-else-branch-clause-kept
returns-else-branch-clause-kept c = λ ops are keeps.
    kept-goes c.args.wanted.now c.args.op ops c.args.kept.now.items keeps (sym c.if-branch.false ∙ c.in_ok-acts.ensures.acts ops are)
