use Rattle.std.proofs.Common.{◌≡◌, drop, is_some}
use Rattle.std.specs.List.{list_any}
use Rattle.lx_regex.specs.declared.rules.Rule.{Rule}
use Rattle.lx_gen.proofs.contexts.any_slash.Given as goal

abbrev pub invariant-loop-rule : goal.invariant-loop-rule
invariant-loop-rule l =
    list_any (λ (rule : Rule). is_some rule.slash) (drop l.rule-index l.rules) ≡ list_any (λ (rule : Rule). is_some rule.slash) l.rules
