use Rattle.std.proofs.Common.{◌≡◌, ◌++◌, drop, map}
use Rattle.lx_rules.specs.Finishing.{kept_at}
use Rattle.lx_rules.proofs.scanners.rules_under.Given as goal

abbrev pub invariant-loop-place : goal.invariant-loop-place
invariant-loop-place l =
    map (λ one. one.now) l.rules.items ++ kept_at (drop l.place-index l.places) (map (λ one. one.value) l.held) ≡ kept_at l.places (map (λ one. one.value) l.held)
