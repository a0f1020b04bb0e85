use Rattle.std.proofs.Common.{◌∙◌, ap, arith, subst, sym}
use Rattle.lx_regex.specs.Expr.{term_of}
use Rattle.lx_regex.specs.declared.expr.Expr.{Expr}
use Rattle.lx_regex.proofs.Trees.Folds.{term_of-group}
use Rattle.lx_exprs.specs.Values.{HasTagsBelow}
use Rattle.lx_exprs.proofs.TagLists.TermTags.{HasTagsBelow-whole}
use Rattle.lx_regex.specs.Kinds.{kinds_of}
use Rattle.lx_regex.proofs.Trees.Kinds.{kinds_of-group}
use Rattle.lx_rules.proofs.rule_exprs.in_whole.Goals as goal

pub returns-then-not-is_group-clause-tags : goal.returns-then-not-is_group-clause-tags
returns-then-not-is_group-clause-tags c bound below = HasTagsBelow-whole bound (term_of 0 c.args.expr) below

pub returns-clause-tags : goal.returns-clause-tags
returns-clause-tags c bound below =
    let inside = subst (λ (e : Expr). HasTagsBelow 0 bound (term_of 0 e)) (sym c.in_ok-new.ensures.ok) (HasTagsBelow-whole bound (term_of 0 c.args.expr) below) in
    subst (HasTagsBelow 0 bound) (sym (term_of-group 0 0 c.in_ok-new.field-0)) (omega arith, omega arith, inside)

pub returns-clause-kinds : goal.returns-clause-kinds
returns-clause-kinds c = kinds_of-group 0 c.in_ok-new.field-0 ∙ ap kinds_of c.in_ok-new.ensures.ok
