use Rattle.std.proofs.Common.{◌≡◌, ◌∙◌, ap, sym, ◌∷◌, List, ◌+◌, ◌<◌, ◌≤◌, length, subst, drop, option_copied, Some}
use Rattle.std.proofs.lemmas.List.{drop_more}
use Rattle.lx_ccode.specs.Validity.{IsLine}
use Rattle.lx_layout.specs.declared.rule_ends.RuleEnd.{RuleEnd}
use Rattle.lx_regex.specs.declared.rules.Rule.{Rule}
use Rattle.lx_gen.specs.Generated.{endings_by}
use Rattle.lx_rules.specs.Numbered.{numbered_act}
use Rattle.lx_gen.specs.Seen.{seen_marks}
use Rattle.lx_gen.proofs.RuleEndings.{numbered_act-some, endings_over, endings_over-all, endings_over-more, lines-each}
use Rattle.lx_gen.proofs.SourceLists.{drop_all, each-more}
use Rattle.lx_gen.proofs.scanner_ends.rule_ends.Goals as goal

pub returns : goal.returns
returns c = record {
  endings =
      endings_over-all (seen_marks c.args.marks) c.args.acts.now c.loop-rule.ends.items c.args.rules.now (drop c.loop-rule.rule-index c.args.rules.now)
      (drop_all c.args.rules.now c.loop-rule.rule-index c.loop-rule-test.false) c.loop-rule.invariant.endings;
  lines = lines-each c.loop-rule.ends.items c.loop-rule.invariant.lines;
}

pub loop-rule-preserved : goal.loop-rule-preserved
loop-rule-preserved c =
    let marks = seen_marks c.args.marks in
    let acts = c.args.acts.now in
    let rules = c.args.rules.now in
    let left = drop (c.loop-rule.rule-index + 1) rules in
    let own : numbered_act acts c.rule-item.result.number ≡ Some c.in-Some.act.now = sym c.numbered_act.ensures ∙ ap option_copied c.in-Some.is in
    let split : drop c.loop-rule.rule-index rules ≡ c.rule-item.result ∷ left =
    drop_more rules c.loop-rule.rule-index c.rule-item.result c.loop-rule-test.true
    ∙ ap (λ (rule : Rule). rule ∷ left) (sym c.rule-item.is) in
    record {
      endings = λ number.
          ap (λ ends. endings_over ends (endings_by marks acts left) number) c.in_ok-push.ensures.items
          ∙ endings_over-more marks acts c.loop-rule.ends.items c.in_ok-rule_end.field-0 c.rule-item.result c.in-Some.act.now left number
          c.in_ok-rule_end.ensures.rule c.in_ok-rule_end.ensures.ending own
          ∙ ap (λ (list : List Rule). endings_over c.loop-rule.ends.items (endings_by marks acts list) number) (sym split)
          ∙ c.loop-rule.invariant.endings number;
      lines = each-more (λ (end : RuleEnd). IsLine end.line) c.loop-rule.ends.items c.push.new.self.items c.in_ok-rule_end.field-0
          c.loop-rule.invariant.lines c.in_ok-rule_end.ensures.line c.in_ok-push.ensures.items;
    }

pub unreachable-requires : goal.unreachable-requires
unreachable-requires c =
    let rules = c.args.rules.now in
    let numbered = subst (λ (rule : Rule). (0 < rule.number) × (rule.number ≤ length c.args.acts.now)) (sym c.rule-item.is)
    (c.requires c.loop-rule.rule-index c.rule-item.result c.loop-rule-test.true) in
    numbered_act-some c.args.acts.now c.rule-item.result.number numbered.0 numbered.1 (sym c.numbered_act.ensures ∙ ap option_copied c.in_default.is)
