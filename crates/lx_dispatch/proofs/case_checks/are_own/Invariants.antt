use Rattle.std.proofs.Common.{◌↔◌, drop}
use Rattle.std.specs.List.{AllByRecursion}
use Rattle.lx_dispatch.specs.UnitSwitches.{IsOwn}
use Rattle.lx_dispatch.proofs.case_checks.are_own.Given as goal

abbrev pub invariant-loop-case : goal.invariant-loop-case
invariant-loop-case l = AllByRecursion IsOwn (drop l.case-index l.cases) ↔ AllByRecursion IsOwn l.cases
