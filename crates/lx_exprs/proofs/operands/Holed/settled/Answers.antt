use Rattle.std.proofs.Common.{◌∙◌, ap, subst, sym}
use Rattle.lx_exprs.specs.Defined.{one, kept}
use Rattle.lx_regex.proofs.Trees.Folds.{term_of-class}
use Rattle.lx_exprs.proofs.Forms.Differences.{one_set}
use Rattle.lx_regex.specs.Kinds.{HaveKinds}
use Rattle.lx_regex.proofs.Trees.Kinds.{kinds_of-class}
use Rattle.lx_exprs.proofs.operands.Holed.settled.Goals as goal

pub returns-clause-stands : goal.returns-clause-stands
returns-clause-stands c meaning is alone =
    c.limited.ensures.stands meaning
    (record { size_is = sym (ap kept alone.size_is); nesting_is = is.nesting_is; groups_is = is.groups_is; tags_is = is.tags_is })
    (one_set meaning c.args.self c.in_ok-set.set is alone c.in_ok-set.ensures.canonical c.in_ok-set.ensures.points
    ∙ ap one (sym (term_of-class 0 c.in_ok-set.set)))

pub returns-clause-kinds : goal.returns-clause-kinds
returns-clause-kinds c tags = c.limited.ensures.kinds tags (subst (HaveKinds tags) (sym (kinds_of-class c.in_ok-set.set)) tt)
