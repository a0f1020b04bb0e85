use Rattle.std.proofs.Common.{◌≡◌, length}
use Rattle.lx_dispatch.proofs.unit_sets.mark.Given as goal

abbrev pub invariant-loop-unit : goal.invariant-loop-unit
invariant-loop-unit l = length l.table.items ≡ length l.initial.table.items
