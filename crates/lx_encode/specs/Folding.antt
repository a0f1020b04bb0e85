-- Blocks that are made one after another.
use Rattle.std.specs.Prelude.{◌≡◌, ℕ, ◌/◌, ◌<◌, ◌≤◌, ◌⊎◌, List, [], length}
use Rattle.lx_encode.specs.declared.runs.Run.{Run}
use Rattle.lx_encode.specs.declared.layers.Layer.{Layer}
use Rattle.lx_encode.specs.declared.layers.Folding.{Folding}
use Rattle.lx_encode.specs.Runs.{LeadsTo, LeadBelow, IsRow}
use Rattle.lx_encode.specs.Table.{Rows, row_of}
use Rattle.lx_encode.specs.Layers.{IsBlock}

-- closed blocks lie before the block that is not closed, and all lead to rows of the table
pub record IsWithinTable (folding : Folding) (rows : Rows) : Type 0 where
  pub closed : IsRow folding.closed.items
  pub passed : (block residual : ℕ) → LeadsTo folding.closed.items block residual → block < folding.block
  pub within : LeadBelow folding.closed.items (length rows)
  pub bounded : folding.block ≤ 0x10FFFF
  pub row : IsRow folding.row.items
  pub below : LeadBelow folding.row.items (length rows)

-- the closed blocks and the block that is not closed are those of the runs
pub record IsFolding (layer : Layer) (runs : List Run) (folding : Folding) (rows : Rows) : Type 0 where
  pub block : (block residual : ℕ) → LeadsTo folding.closed.items block residual → IsBlock layer runs block (row_of rows residual)
  pub some : (block residual : ℕ) → LeadsTo folding.closed.items block residual → row_of rows residual ≡ [] → ⊥
  pub last : IsBlock layer runs folding.block folding.row.items
  pub all : (number target : ℕ) → LeadsTo runs number target →
      (number / layer.radix ≡ folding.block)
      ⊎ ((number / layer.radix < folding.block) × ((residual : ℕ) × LeadsTo folding.closed.items (number / layer.radix) residual))
