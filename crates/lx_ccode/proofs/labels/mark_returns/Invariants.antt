use Rattle.std.proofs.Common.{◌≡◌, drop, map}
use Rattle.lx_ccode.specs.Labels.{marked}
use Rattle.lx_ccode.specs.States.{states_from}
use Rattle.lx_ccode.proofs.labels.mark_returns.Given as goal

abbrev pub invariant-loop-place : goal.invariant-loop-place
invariant-loop-place l =
    marked l.labels.items (map (λ case. case.block) (states_from l.place (drop l.place l.blocks))) ≡ marked l.initial.labels.items (map (λ case. case.block) (states_from 0 l.blocks))
