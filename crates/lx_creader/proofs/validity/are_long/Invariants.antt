use Rattle.std.proofs.Common.{◌↔◌, drop}
use Rattle.std.specs.List.{AllByRecursion}
use Rattle.lx_ccode.specs.Validity.{IsLong}
use Rattle.lx_creader.proofs.validity.are_long.Given as goal

abbrev pub invariant-loop-case : goal.invariant-loop-case
invariant-loop-case l =
    AllByRecursion (λ case. IsLong case.state × IsLong case.block) (drop l.case-index l.cases) ↔ AllByRecursion (λ case. IsLong case.state × IsLong case.block) l.cases
