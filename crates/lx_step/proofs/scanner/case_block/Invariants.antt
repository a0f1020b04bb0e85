use Rattle.std.proofs.Common.{◌≡◌, drop}
use Rattle.lx_ccode.specs.Machine.{case_block}
use Rattle.lx_step.proofs.scanner.case_block.Given as goal

abbrev pub invariant-loop-case : goal.invariant-loop-case
invariant-loop-case l = case_block (drop l.case-index l.cases) l.last l.unit ≡ case_block l.cases l.last l.unit
