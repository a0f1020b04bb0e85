use Rattle.lx_regex.specs.Expr.{term_of}
use Rattle.lx_exprs.proofs.TagLists.TermTags.{HasTagsBelow-greater}
use Rattle.std.proofs.Common.{◌∷◌, false, subst, sym}
use Rattle.lx_regex.specs.Kinds.{HaveKinds, kinds_of}
use Rattle.lx_regex.proofs.Trees.Kinds.{HaveKinds-both}
use Rattle.lx_rules.proofs.rule_exprs.trailing_expr.Goals as goal

pub returns-clause-tags : goal.returns-clause-tags
returns-clause-tags c bound one two first second less =
    c.in_ok-expr.ensures.tags bound
    (HasTagsBelow-greater 1 c.args.first.tags bound (term_of 0 c.in-Some.front) first (c.in-Some.ensures.kept one).2)
    (HasTagsBelow-greater 1 c.args.second.tags bound (term_of 0 c.in-Some-into_expr.back) second (c.in-Some-into_expr.ensures.kept two).2) less

pub returns-clause-kinds : goal.returns-clause-kinds
returns-clause-kinds c tags one two slash =
    let is = slash (c.requires c.if-not-fits.false) in (
      subst (HaveKinds tags) (sym c.in_ok-expr.ensures.kinds)
          (HaveKinds-both tags (kinds_of c.in-Some.front) ((c.args.number, false) ∷ kinds_of c.in-Some-into_expr.back) (c.in-Some.ensures.kinds tags one)
          (is, c.in-Some-into_expr.ensures.kinds tags two)),
      is,
    )
