use Rattle.std.proofs.Common.{drop}
use Rattle.std.specs.List.{AllByRecursion}
use Rattle.lx_dispatch.specs.TestTrees.{HasWay}
use Rattle.lx_dispatch.specs.Views.{seen_stretches}
use Rattle.lx_dispatch.proofs.case_checks.have_ways.Given as goal

abbrev pub invariant-loop-case : goal.invariant-loop-case
invariant-loop-case l =
    AllByRecursion (λ case. HasWay (seen_stretches l.tests) l.last case.class) (drop l.case-index l.cases)
    → AllByRecursion (λ case. HasWay (seen_stretches l.tests) l.last case.class) l.cases
