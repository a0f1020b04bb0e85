use Rattle.std.proofs.Common.{◌≡◌, map, take}
use Rattle.lx_rules.proofs.opening.shared_rules.Given as goal

abbrev pub invariant-loop-rule : goal.invariant-loop-rule
invariant-loop-rule l = map (λ one. one.value) l.shared.items ≡ map (λ one. one.value) (take l.rule-index l.held)
