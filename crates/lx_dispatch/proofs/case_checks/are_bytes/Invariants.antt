use Rattle.std.proofs.Common.{◌↔◌, drop}
use Rattle.std.specs.List.{AllByRecursion}
use Rattle.lx_ccode.specs.Validity.{IsByte}
use Rattle.lx_dispatch.proofs.case_checks.are_bytes.Given as goal

abbrev pub invariant-loop-number : goal.invariant-loop-number
invariant-loop-number l = AllByRecursion IsByte (drop l.number-index l.numbers) ↔ AllByRecursion IsByte l.numbers
