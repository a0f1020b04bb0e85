use Rattle.std.proofs.Common.{◌≡◌, ◌+◌, ◌++◌, length, sym, ap, ◌∙◌, subst, arith}
use Rattle.std.proofs.lemmas.List.Sorted.{IsNonDecreasingBy-from_sort}
use Rattle.lx_warn.proofs.NumberLists.{entered-more, entered-moved}
use Rattle.lx_warn.specs.Entered.{AreEntered, listed, rule_at}
use Rattle.lx_warn.proofs.entered.entered_rules.Goals as goal

pub loop-state-preserved : goal.loop-state-preserved
loop-state-preserved c =
    let rule = rule_at c.args.auto.now c.args.marks.now c.args.start in
    let state = c.loop-state.state in
    let numbers = c.loop-state.numbers.items in
    subst (AreEntered rule c.args.at_end (state + 1))
    (sym (c.in_ok-push_rule-2.ensures ∙ ap (λ found. numbers ++ listed found) c.rule_at.ensures))
    (entered-more rule c.args.at_end state numbers c.loop-state.invariant)

pub returns-clause-entered : goal.returns-clause-entered
returns-clause-entered c =
    let auto = c.args.auto.now in
    let rule = rule_at auto c.args.marks.now c.args.start in
    let state = c.loop-state.state in
    let fit : length c.args.marks.now ≡ length auto.states = c.requires.fit in
    let ends : state ≡ length auto.states = omega arith in
    subst (λ bound. AreEntered rule c.args.at_end bound c.sort_unstable.new.self.items) ends
    (entered-moved rule c.args.at_end state c.loop-state.numbers.items c.sort_unstable.new.self.items c.loop-state.invariant
    c.sort_unstable.ensures.permutation)

pub returns-clause-ascend : goal.returns-clause-ascend
returns-clause-ascend c = IsNonDecreasingBy-from_sort (λ x. x) c.sort_unstable.new.self.items c.sort_unstable.ensures.sorted
