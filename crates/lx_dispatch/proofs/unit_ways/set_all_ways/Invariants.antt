use Rattle.std.proofs.Common.{◌≡◌, ◌-◌, ◌<◌, ℕ, None, drop, get_or, length}
use Rattle.lx_dispatch.specs.UnitSwitches.{way_in}
use Rattle.lx_dispatch.proofs.unit_ways.set_all_ways.Given as goal

abbrev pub invariant-loop-passed : goal.invariant-loop-passed
invariant-loop-passed l =
    (length l.ways ≡ 256)
    × ((unit : ℕ) → unit < 256
    → get_or l.ways unit None ≡ way_in (drop (length l.cases - l.passed) l.cases) (get_or l.initial.ways unit None) unit)
