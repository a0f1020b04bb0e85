use Rattle.std.proofs.Common.{◌≡◌, map, take}
use Rattle.lx_regex.specs.declared.rules.Rule.{Rule}
use Rattle.lx_warn.proofs.lists.rule_numbers.Given as goal

abbrev pub invariant-loop-rule : goal.invariant-loop-rule
invariant-loop-rule l = l.numbers.items ≡ map (λ (rule : Rule). rule.number) (take l.rule-index l.rules)
