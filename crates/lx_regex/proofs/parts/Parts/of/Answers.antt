use Rattle.std.proofs.Common.{◌≡◌, ◌+◌, suc, arith, sym, subst}
use Rattle.lx_regex.specs.Limits.{IsWithinLimits}
use Rattle.lx_regex.proofs.PartTables.RuleParts.{RulesLeft, rules_more, rules_room, few_rules}
use Rattle.lx_regex.proofs.parts.Parts.of.Goals as goal

pub overflow_cast-place : goal.overflow_cast-place
overflow_cast-place c =
    let limits = subst IsWithinLimits (sym c.as_slice-rule-items.ensures) c.requires in
    omega (arith, few_rules c.as_slice-rule-items.result.now limits, c.loop-place-test.true)

pub append_rule-requires : goal.append_rule-requires
append_rule-requires c =
    let limits = subst IsWithinLimits (sym c.as_slice-rule-items.ensures) c.requires in
    rules_room c.as_slice-rule-items.result.now c.loop-place.parts.items c.loop-place.place c.rule-item.result c.loop-place-test.true c.rule-item.is
    limits c.loop-place.invariant

pub loop-place-preserved : goal.loop-place-preserved
loop-place-preserved c =
    let rules = c.as_slice-rule-items.result.now in
    let limits = subst IsWithinLimits (sym c.as_slice-rule-items.ensures) c.requires in
    let next : suc c.loop-place.place ≡ c.loop-place.place + 1 = omega arith in
    subst
    (λ n. RulesLeft rules c.append_rule.new.list.items n) next
    (rules_more rules c.loop-place.parts.items c.append_rule.new.list.items c.loop-place.place c.rule-item.result c.loop-place-test.true c.rule-item.is
    limits c.loop-place.invariant c.in_ok-append_rule.ensures)
