use Rattle.std.proofs.Common.{ℕ, ◌*◌, ◌/◌, ◌<◌, ◌≤◌, take}
use Rattle.lx_encode.specs.Runs.{LeadsTo}
use Rattle.lx_encode.specs.Table.{GrowsBy}
use Rattle.lx_encode.specs.Folding.{IsFolding, IsWithinTable}
use Rattle.lx_encode.proofs.layers.blocks_of.Given as goal

abbrev pub invariant-loop-part : goal.invariant-loop-part
invariant-loop-part l = record {
  in_table : IsWithinTable l.folding l.table;
  grows : GrowsBy l.initial.table l.table (2 * l.part-index);
  folded : IsFolding l.layer (take l.part-index l.part-items) l.folding l.table;
  later : (number : ℕ) → ((old target : ℕ) → LeadsTo (take l.part-index l.part-items) old target → old < number) →
      l.folding.block ≤ number / l.layer.radix;
}
