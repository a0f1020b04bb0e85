use Rattle.std.proofs.Common.{◌≡◌, drop, map}
use Rattle.lx_rules.specs.Conditions.{cond_names}
use Rattle.lx_rules.specs.Finishing.{kept_targets_fault}
use Rattle.lx_rules.proofs.finishing.targets_fault.Given as goal

abbrev pub invariant-loop-place : goal.invariant-loop-place
invariant-loop-place l =
    kept_targets_fault (cond_names l.known.conds) (map (λ one. one.value) (drop l.place l.rules)) (drop l.place l.acts)
    ≡ kept_targets_fault (cond_names l.known.conds) (map (λ one. one.value) l.rules) l.acts
