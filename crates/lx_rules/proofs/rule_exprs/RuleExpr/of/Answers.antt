use Rattle.std.proofs.Common.{None, subst, sym}
use Rattle.lx_regex.specs.Kinds.{HaveKinds}
use Rattle.lx_rules.specs.Kept.{HasExprKinds}
use Rattle.lx_rules.proofs.rule_exprs.RuleExpr.of.Goals as goal
use Rattle.lx_rules.proofs.rule_exprs.RuleExpr.of.Goals.{in-None, in-Some+in_ok-in_whole-in-Some}

pub returns-clause-kinds : goal.returns-clause-kinds
returns-clause-kinds c kinds =
    let tags = c.args.reading.tags in
    elim c.match-into_expr.branch [
      | in-Some+in_ok-in_whole-in-Some w ↦
          subst (HasExprKinds tags None) (sym w.expr-is)
          (subst (HaveKinds tags) (sym w.in_ok-in_whole-in-Some.ensures.kinds) (w.in-Some.ensures.kinds tags kinds), tt)
      | in-None w ↦ subst (HasExprKinds tags None) (sym w.expr-is) tt
    ]
