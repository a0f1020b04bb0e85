use Rattle.std.proofs.Common.{◌≡◌, take}
use Rattle.lx_compile.proofs.facts.copy_cases.Given as goal

abbrev pub invariant-loop-case : goal.invariant-loop-case
invariant-loop-case l = l.copies ≡ take l.case-index l.cases
