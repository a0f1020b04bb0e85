use Rattle.std.proofs.Common.{◌≡◌, ◌↔◌, ◌++◌, List, ℕ, drop, length}
use Rattle.lx_creader.specs.UnitCases.{AreNew}
use Rattle.lx_creader.proofs.cases.add_units.Given as goal

abbrev pub invariant-loop-unit : goal.invariant-loop-unit
invariant-loop-unit l =
    (length l.seen ≡ 256) × ((more : List ℕ) → (AreNew l.seen (drop l.unit-index l.units ++ more) ↔ AreNew l.initial.seen (l.units ++ more)))
