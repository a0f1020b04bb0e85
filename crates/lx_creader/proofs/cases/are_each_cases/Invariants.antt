use Rattle.std.proofs.Common.{◌↔◌, drop}
use Rattle.std.specs.List.{AllByRecursion}
use Rattle.lx_ccode.specs.Validity.{IsSwitchCase}
use Rattle.lx_creader.proofs.cases.are_each_cases.Given as goal

abbrev pub invariant-loop-case : goal.invariant-loop-case
invariant-loop-case l = AllByRecursion IsSwitchCase (drop l.case-index l.cases) ↔ AllByRecursion IsSwitchCase l.cases
