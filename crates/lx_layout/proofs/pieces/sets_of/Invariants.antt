use Rattle.lx_dispatch.specs.Dispatch.{IsTable}
use Rattle.lx_layout.proofs.pieces.sets_of.Given as goal

abbrev pub invariant-loop-scanner : goal.invariant-loop-scanner
invariant-loop-scanner l = IsTable l.sets.table.items
