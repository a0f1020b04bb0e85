use Rattle.std.proofs.Common.{◌≡◌, drop}
use Rattle.lx_regex.specs.Pattern.{end_rule, patterns_of}
use Rattle.lx_rules.proofs.resolved.end_rule.Given as goal

abbrev pub invariant-loop-rule : goal.invariant-loop-rule
invariant-loop-rule l = end_rule (patterns_of (drop l.rule-index l.rules)) ≡ end_rule (patterns_of l.rules)
