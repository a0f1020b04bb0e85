use Rattle.std.proofs.Common.{◌↔◌, drop}
use Rattle.std.specs.List.{AllByRecursion}
use Rattle.lx_creader.specs.ValidParts.{IsValidCase}
use Rattle.lx_creader.proofs.conds.are_valid_cases.Given as goal

abbrev pub invariant-loop-case : goal.invariant-loop-case
invariant-loop-case l =
    AllByRecursion (IsValidCase l.blocks) (drop l.case-index l.conds) ↔ AllByRecursion (IsValidCase l.blocks) l.conds
