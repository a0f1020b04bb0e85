use Rattle.std.proofs.Common.{◌≡◌, [], drop, map}
use Rattle.lx_ccode.specs.Labels.{marked}
use Rattle.lx_ccode.specs.States.{states_in}
use Rattle.lx_ccode.proofs.labels.mark_states.Given as goal

abbrev pub invariant-loop-index : goal.invariant-loop-index
invariant-loop-index l =
    marked l.labels.items (map (λ case. case.block) (states_in l.place (drop l.index l.statements) []))
    ≡ marked l.initial.labels.items (map (λ case. case.block) (states_in l.place l.statements []))
