use Rattle.std.proofs.Common.{◌↔◌, ◌<◌, drop, map}
use Rattle.std.specs.List.{AllByRecursion}
use Rattle.lx_creader.proofs.cases.lead_below.Given as goal

abbrev pub invariant-loop-case : goal.invariant-loop-case
invariant-loop-case l =
    AllByRecursion (λ block. block < l.blocks) (map (λ case. case.block) (drop l.case-index l.cases))
    ↔ AllByRecursion (λ block. block < l.blocks) (map (λ case. case.block) l.cases)
