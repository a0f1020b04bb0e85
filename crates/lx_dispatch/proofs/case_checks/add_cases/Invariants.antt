use Rattle.std.proofs.Common.{◌≡◌, ◌↔◌, drop, length}
use Rattle.lx_dispatch.specs.UnitSwitches.{AreNew, units_in}
use Rattle.lx_dispatch.proofs.case_checks.add_cases.Given as goal

abbrev pub invariant-loop-case : goal.invariant-loop-case
invariant-loop-case l =
    (length l.seen ≡ 256) × (AreNew l.seen (units_in (drop l.case-index l.cases)) ↔ AreNew l.initial.seen (units_in l.cases))
