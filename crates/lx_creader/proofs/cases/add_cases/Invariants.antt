use Rattle.std.proofs.Common.{◌≡◌, ◌↔◌, drop, length}
use Rattle.lx_ccode.specs.Validity.{units_of}
use Rattle.lx_creader.specs.UnitCases.{AreNew}
use Rattle.lx_creader.proofs.cases.add_cases.Given as goal

abbrev pub invariant-loop-case : goal.invariant-loop-case
invariant-loop-case l =
    (length l.seen ≡ 256) × (AreNew l.seen (units_of (drop l.case-index l.cases)) ↔ AreNew l.initial.seen (units_of l.cases))
