use Rattle.std.proofs.Common.{◌∙◌}
use Rattle.lx_compile.proofs.GreatestNumbers.{groups_in_rules-more, ord_max-max}
use Rattle.lx_compile.proofs.making.groups_in_rules.Goals as goal

pub loop-rule-preserved : goal.loop-rule-preserved
loop-rule-preserved c =
    groups_in_rules-more c.args.rules.now c.loop-rule.rule-index c.rule-item.result c.loop-rule.most _ _ c.loop-rule-test.true c.rule-item.is
    (c.max-most.ensures ∙ ord_max-max c.loop-rule.most c.rule-item.result.groups) c.loop-rule.invariant
