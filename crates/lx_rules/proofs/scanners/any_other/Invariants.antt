use Rattle.std.proofs.Common.{◌≡◌, drop, map, not}
use Rattle.std.specs.List.{list_any}
use Rattle.lx_regex.specs.Pattern.{is_end}
use Rattle.lx_rules.specs.declared.kept.KeptRule.{KeptRule}
use Rattle.lx_rules.proofs.scanners.any_other.Given as goal

abbrev pub invariant-loop-rule : goal.invariant-loop-rule
invariant-loop-rule l =
    list_any (λ (one : KeptRule). not (is_end one.kind)) (map (λ one. one.now) (drop l.rule-index l.rules))
    ≡ list_any (λ (one : KeptRule). not (is_end one.kind)) (map (λ one. one.now) l.rules)
