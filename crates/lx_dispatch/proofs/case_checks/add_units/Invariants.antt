use Rattle.std.proofs.Common.{◌≡◌, ◌↔◌, ◌++◌, List, ℕ, drop, length}
use Rattle.lx_dispatch.specs.UnitSwitches.{AreNew}
use Rattle.lx_dispatch.proofs.case_checks.add_units.Given as goal

abbrev pub invariant-loop-unit : goal.invariant-loop-unit
invariant-loop-unit l =
    (length l.seen ≡ 256) × ((more : List ℕ) → (AreNew l.seen (drop l.unit-index l.units ++ more) ↔ AreNew l.initial.seen (l.units ++ more)))
