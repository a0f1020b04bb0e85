use Rattle.std.proofs.Common.{map, sym, subst, take}
use Rattle.std.specs.List.{AllZip}
use Rattle.lx_rules.specs.Finishing.{IsCopyOf}
use Rattle.lx_rules.proofs.Rules.CopiedRules.{built_at, copies_more}
use Rattle.lx_rules.proofs.copies.rule_copies.Goals as goal

pub rule_copy-requires : goal.rule_copy-requires
rule_copy-requires c = built_at c.args.held.now c.loop-one.one-index c.one-item.result c.loop-one-test.true c.one-item.is c.requires

pub loop-one-preserved : goal.loop-one-preserved
loop-one-preserved c =
    subst (AllZip IsCopyOf (map (λ one. one.now) (take _ c.args.held.now))) (sym c.in_ok-push.ensures.items)
    (copies_more c.args.held.now c.loop-one.one-index c.one-item.result c.loop-one.rules.items c.in_ok-rule_copy.field-0 c.loop-one-test.true c.one-item.is
    c.loop-one.invariant c.in_ok-rule_copy.ensures)
