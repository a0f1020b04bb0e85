use Rattle.std.proofs.Common.{◌≡◌, drop, map}
use Rattle.lx_rules.specs.Conditions.{nothing_runs}
use Rattle.lx_rules.specs.Finishing.{running_over}
use Rattle.lx_rules.proofs.scanners.running.Given as goal

abbrev pub invariant-loop-rule : goal.invariant-loop-rule
invariant-loop-rule l =
    running_over l.running (map (λ one. one.now) (drop l.rule-index l.rules)) ≡ running_over nothing_runs (map (λ one. one.now) l.rules)
