use Rattle.std.proofs.Common.{◌≡◌, ◌↔◌, ℕ, ◌++◌, List, length, Contains, IsTrue, sym, ap, ◌∙◌, subst}
use Rattle.lx_auto.specs.Automaton.{state_of}
use Rattle.lx_regex.specs.Pattern.{end_rule, patterns_of}
use Rattle.lx_regex.specs.declared.rules.Rule.{Rule}
use Rattle.lx_warn.proofs.AllWarnings.{are-warnings}
use Rattle.lx_warn.specs.Entered.{AreEntered, StartEnters, number_of, rule_at, rule_warnings, word_warnings}
use Rattle.lx_warn.specs.Warnings.{AreWarnings, HasNumber}
use Rattle.lx_warn.proofs.lists.warnings_of_set.Goals as goal

pub returns : goal.returns
returns c policy =
    let enc = c.args.enc in
    let auto = c.args.auto.now in
    let rules = c.args.set.now.rules in
    let read : c.as_slice-rules.result.now ≡ rules = c.as_slice-rules.ensures in
    let at_end = c.end_rule-at_end.result in
    let end_is : at_end ≡ end_rule (patterns_of rules) = c.end_rule-at_end.ensures ∙ ap (λ (l : List Rule). end_rule (patterns_of l)) read in
    let marks = c.in_ok-marks.marks.items in
    let start = c.start_enters-start.result in
    let enters : IsTrue start ↔ StartEnters enc auto marks (end_rule (patterns_of rules)) =
    subst (λ l. IsTrue start ↔ StartEnters enc auto l (end_rule (patterns_of rules))) c.deref.ensures.value
    (subst (λ e. IsTrue start ↔ StartEnters enc auto c.deref.result.now e) end_is c.start_enters-start.ensures) in
    let entered = c.in_ok-entered.entered.items in
    let are_entered : AreEntered (rule_at auto marks start) (end_rule (patterns_of rules)) (length auto.states) entered =
    subst (λ l. AreEntered (rule_at auto l start) (end_rule (patterns_of rules)) (length auto.states) entered) c.deref-2.ensures.value
    (subst (λ e. AreEntered (rule_at auto c.deref-2.result.now start) e (length auto.states) entered) end_is c.in_ok-entered.ensures.entered) in
    let numbers = c.in_ok-numbers.numbers.items in
    let are_numbers : (number : ℕ) → Contains numbers number ↔ HasNumber (patterns_of rules) number =
    subst (λ (l : List Rule). (number : ℕ) → Contains numbers number ↔ HasNumber (patterns_of l) number) read c.in_ok-numbers.ensures.numbers in
    let word = c.in_ok-first_stopping.field-0 in
    let own = number_of (state_of auto.states 0).accept in
    let told : c.in_ok-list.list ≡ rule_warnings entered own numbers =
    c.in_ok-list.ensures ∙ ap (λ l. rule_warnings l c.accepted_rule.result c.deref-3.result.now) c.deref-4.ensures.value
    ∙ ap (λ l. rule_warnings entered c.accepted_rule.result l) c.deref-3.ensures.value
    ∙ ap (λ o. rule_warnings entered o numbers) c.accepted_rule.ensures in
    subst (AreWarnings policy enc (patterns_of rules)) (sym (c.in_ok-push_word.ensures ∙ ap (λ l. l ++ word_warnings word) told))
    (are-warnings policy c.requires.automaton.0 enc rules auto c.requires.automaton.1 c.requires.limits.regular marks c.in_ok-marks.ensures start
    enters entered numbers word are_entered are_numbers c.in_ok-numbers.ensures.ascend c.in_ok-first_stopping.ensures)
