use Rattle.std.proofs.Common.{◌≡◌, ◌<◌, ℕ, None, cond, drop, get_or, length}
use Rattle.lx_ccode.specs.Machine.{has_unit}
use Rattle.lx_dispatch.proofs.unit_ways.set_ways.Given as goal

abbrev pub invariant-loop-unit : goal.invariant-loop-unit
invariant-loop-unit l =
    (length l.ways ≡ 256)
    × ((unit : ℕ) → unit < 256
    → cond (has_unit (drop l.unit-index l.units) unit) l.class (get_or l.ways unit None)
    ≡ cond (has_unit l.units unit) l.class (get_or l.initial.ways unit None))
