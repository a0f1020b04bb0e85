use Rattle.std.proofs.Common.{◌≡◌, ◌∙◌, ◌+◌, suc, sym, ap, subst, arith, length}
use Rattle.lx_regex.specs.Automaton.{automaton}
use Rattle.lx_regex.specs.Limits.{IsWithinLimits}
use Rattle.lx_regex.specs.Pattern.{patterns_of, terms_of}
use Rattle.lx_tnfa.specs.RuleNumbers.{HaveApartNumbers}
use Rattle.lx_regex.specs.ClassLimits.{AllClassesFit}
use Rattle.lx_tnfa.proofs.Leaves.FormedLeaves.{automaton_formed}
use Rattle.lx_tnfa.proofs.Liveness.LiveMarks.{live_same}
use Rattle.lx_tnfa.proofs.Construction.ApartNumbers.{numbers_apart}
use Rattle.lx_tnfa.proofs.Construction.WholeTable.{RulesMade, made_begin, made_can, made_more, made_end, made_few, made_some, held_numbered}
use Rattle.lx_tnfa.proofs.tnfa.Tnfa.of.Goals as goal

pub loop-rule-init : goal.loop-rule-init
loop-rule-init c =
    let limits = subst IsWithinLimits (sym c.as_slice-rule-items.ensures) c.requires.limits in
    let made = c.in_ok-making.ensures in
    made_begin c.as_slice-rule-items.result.now c.in_ok-making.making limits made.classes made.owners made.rules made.begins made.states

pub add_rule-requires-clause-can : goal.add_rule-requires-clause-can
add_rule-requires-clause-can c =
    let rules = c.as_slice-rule-items.result.now in
    let same = sym c.as_slice-rule-items.ensures in
    made_can c.args.enc rules c.in_ok-making.making c.loop-rule.making c.loop-rule.rule-index c.rule-item.result c.loop-rule-test.true c.rule-item.is
    (subst IsWithinLimits same c.requires.limits) (subst (λ l. AllClassesFit c.args.enc (terms_of (patterns_of l))) same c.requires.classes)
    c.in_ok-making.ensures.enc c.loop-rule.invariant

pub loop-rule-preserved : goal.loop-rule-preserved
loop-rule-preserved c =
    let rules = c.as_slice-rule-items.result.now in
    let next : suc c.loop-rule.rule-index ≡ c.loop-rule.rule-index + 1 = omega arith in
    subst
    (RulesMade rules c.in_ok-making.making c.add_rule.new.self) next
    (made_more rules c.in_ok-making.making c.loop-rule.making c.add_rule.new.self c.loop-rule.rule-index c.rule-item.result c.loop-rule-test.true
    c.rule-item.is (subst IsWithinLimits (sym c.as_slice-rule-items.ensures) c.requires.limits) c.loop-rule.invariant c.in_ok-add_rule.ensures)

pub invariant_of-result : goal.invariant_of-result
invariant_of-result c =
    let whole =
    made_end c.args.enc c.as_slice-rule-items.result.now c.in_ok-making.making c.loop-rule.making c.loop-rule.rule-index c.in_ok-live.live.items
    c.loop-rule-test.false c.in_ok-making.ensures.states c.in_ok-making.ensures.enc c.loop-rule.invariant
    (c.in_ok-live.ensures.count ∙ ap length c.deref.ensures.value)
    (live_same c.loop-rule.making.building.classes.list.items c.deref-2.result.now c.loop-rule.making.building.states.items c.deref.result.now
    c.in_ok-live.live.items c.deref-2.ensures.value c.deref.ensures.value c.in_ok-live.ensures.live) in (
      held_numbered c.loop-rule.making.building.classes.list.items (automaton (terms_of (patterns_of c.as_slice-rule-items.result.now))) c.loop-rule.making.building.states.items whole.states,
      made_few c.as_slice-rule-items.result.now c.in_ok-making.making c.loop-rule.making c.loop-rule.rule-index c.loop-rule.invariant,
      automaton_formed c.args.enc c.loop-rule.making.building.classes.list.items (terms_of (patterns_of c.as_slice-rule-items.result.now))
          c.loop-rule.making.building.states.items whole.states whole.classes,
      subst HaveApartNumbers (sym whole.rules) (numbers_apart c.as_slice-rule-items.result.now (subst IsWithinLimits (sym c.as_slice-rule-items.ensures) c.requires.limits).numbers),
    )

pub returns : goal.returns
returns c =
    let whole =
    made_end c.args.enc c.as_slice-rule-items.result.now c.in_ok-making.making c.loop-rule.making c.loop-rule.rule-index c.in_ok-live.live.items
    c.loop-rule-test.false c.in_ok-making.ensures.states c.in_ok-making.ensures.enc c.loop-rule.invariant
    (c.in_ok-live.ensures.count ∙ ap length c.deref.ensures.value)
    (live_same c.loop-rule.making.building.classes.list.items c.deref-2.result.now c.loop-rule.making.building.states.items c.deref.result.now
    c.in_ok-live.live.items c.deref-2.ensures.value c.deref.ensures.value c.in_ok-live.ensures.live) in
    rw c.as_slice-rule-items.ensures at whole

pub live_states-requires : goal.live_states-requires
live_states-requires c =
    let some =
    made_some c.as_slice-rule-items.result.now c.in_ok-making.making c.loop-rule.making c.loop-rule.rule-index c.in_ok-making.ensures.states
    c.loop-rule.invariant in
    omega (arith, ap length c.deref.ensures.value, some)
