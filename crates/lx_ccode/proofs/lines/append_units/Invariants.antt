use Rattle.std.proofs.Common.{◌≡◌, ◌++◌, [], drop}
use Rattle.lx_ccode.specs.Text.{units_then}
use Rattle.lx_ccode.proofs.lines.append_units.Given as goal

abbrev pub invariant-loop-unit : goal.invariant-loop-unit
invariant-loop-unit l = l.text.items ++ units_then (drop l.unit-index l.units) [] ≡ l.initial.text.items ++ units_then l.units []
