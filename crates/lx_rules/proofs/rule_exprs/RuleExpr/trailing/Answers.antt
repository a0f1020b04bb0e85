use Rattle.std.proofs.Common.{◌≡◌, ◌⊎◌, ◌∙◌, ◌+◌, IfNone, IfSome, false, true, ap, subst}
use Rattle.lx_exprs.specs.Defined.{is_built, kept}
use Rattle.lx_rules.proofs.Rules.ReadContexts.{groups_in, read_is}
use Rattle.lx_rules.proofs.rule_exprs.RuleExpr.trailing.Goals as goal

pub returns-clause-means : goal.returns-clause-means
returns-clause-means c meaning later one count number two =
    let room = c.args.room in
    let found = c.in_ok-expr.expr in
    let size = c.sum-size.ensures ∙ ap (λ n. kept (n + c.args.second.value.size)) c.sum.ensures in
    let groups = c.with_whole-groups.ensures ∙ ap (groups_in c.args.is_group) c.sum-2.ensures in
    read_is c.args.is_group room meaning later c.args.first c.args.number c.args.second one count number two c.sum-size.result c.max-nesting.result
    c.with_whole-groups.result size c.max-nesting.ensures groups c.requires.room found (c.in_ok-expr.ensures.built room meaning later one two.value)
    (subst (λ fit. IfSome found (λ expr. fit ≡ true)) c.fits-fits.ensures c.in_ok-expr.ensures.within)
    (subst (λ fit. IfNone found ((fit ≡ false) ⊎ ((is_built room meaning ≡ false) ⊎ (is_built room later ≡ false)))) c.fits-fits.ensures
    (c.in_ok-expr.ensures.past room meaning later one two.value))

pub returns-clause-kinds : goal.returns-clause-kinds
returns-clause-kinds c one two slash = c.in_ok-expr.ensures.kinds c.args.second.tags one two slash
