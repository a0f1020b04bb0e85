use Rattle.std.proofs.Common.{◌≡◌, drop, map}
use Rattle.lx_ccode.specs.Labels.{marked}
use Rattle.lx_ccode.proofs.labels.mark_cases.Given as goal

abbrev pub invariant-loop-case : goal.invariant-loop-case
invariant-loop-case l =
    marked l.labels.items (map (λ case. case.block) (drop l.case-index l.cases)) ≡ marked l.initial.labels.items (map (λ case. case.block) l.cases)
