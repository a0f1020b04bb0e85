-- Blocks of numbers, which one more unit tells apart.
use Rattle.std.specs.Prelude.{◌≡◌, ℕ, ◌+◌, ◌/◌, ◌%◌, ◌⊎◌, ◌↔◌, List, [], ◌∷◌}
use Rattle.lx_encode.specs.declared.runs.Run.{Run}
use Rattle.lx_encode.specs.declared.layers.Layer.{Layer}
use Rattle.lx_encode.specs.Runs.{LeadsTo}
use Rattle.lx_encode.specs.Table.{Rows, row_of}

-- the row of a block leads from the unit of each number in the block to where the number leads
abbrev pub IsBlock : Layer → List Run → ℕ → List Run → Type 0
IsBlock layer runs block row = (unit target : ℕ) → LeadsTo row unit target ↔
    ((number : ℕ) × LeadsTo runs number target × (number / layer.radix ≡ block) × (unit ≡ layer.offset + number % layer.radix))

-- each block of numbers leads to the residual with its row
pub record AreBlocks (layer : Layer) (runs blocks : List Run) (rows : Rows) : Type 0 where
  pub block : (block residual : ℕ) → LeadsTo blocks block residual → IsBlock layer runs block (row_of rows residual)
  pub some : (block residual : ℕ) → LeadsTo blocks block residual → row_of rows residual ≡ [] → ⊥
  pub all : (number target : ℕ) → LeadsTo runs number target → (residual : ℕ) × LeadsTo blocks (number / layer.radix) residual

-- the run lies in one block, or is made of whole blocks
abbrev pub IsPart : ℕ → Run → Type 0
IsPart radix run =
    (run.lo / radix ≡ run.hi / radix) ⊎ ((run.lo % radix ≡ 0) × (run.hi % radix + 1 ≡ radix))

abbrev pub AreParts : ℕ → List Run → Type 0
AreParts radix [] = Unit {0}
AreParts radix (run ∷ runs) = IsPart radix run × AreParts radix runs
