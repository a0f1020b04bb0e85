use Rattle.std.proofs.Common.{ℕ, ◌⊎◌, ◌↔◌, take}
use Rattle.lx_encode.specs.Runs.{IsRow, LeadsShifted, LeadsTo}
use Rattle.lx_encode.proofs.runs.append_shifted.Given as goal

abbrev pub invariant-loop-run : goal.invariant-loop-run
invariant-loop-run l = record {
  row : IsRow l.row.items;
  leads : (number target : ℕ) → LeadsTo l.row.items number target ↔
      (LeadsTo l.initial.row.items number target ⊎ LeadsShifted (take l.run-index l.runs) l.from l.to l.unit number target);
}
