use Rattle.lx_dispatch.specs.Dispatch.{IsTable}
use Rattle.lx_dispatch.proofs.unit_sets.UnitSets.add.Given as goal

abbrev pub invariant-loop-number : goal.invariant-loop-number
invariant-loop-number l = IsTable l.self.table.items
