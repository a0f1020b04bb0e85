use Rattle.std.proofs.Common.{◌≡◌, ◌++◌, drop, map}
use Rattle.lx_rules.specs.Finishing.{kept_others}
use Rattle.lx_rules.proofs.scanners.with_others.Given as goal

abbrev pub invariant-loop-rule : goal.invariant-loop-rule
invariant-loop-rule l =
    map (λ one. one.now) l.all.items ++ kept_others l.with_end (map (λ one. one.now) (drop l.rule-index l.others))
    ≡ map (λ one. one.now) l.initial.all.items ++ kept_others l.with_end (map (λ one. one.now) l.others)
