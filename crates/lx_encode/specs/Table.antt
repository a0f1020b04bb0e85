-- The rows of a unit graph, and the unit lists that finish its residuals.
use Rattle.std.specs.Prelude.{◌≡◌, ℕ, ◌+◌, ◌<◌, ◌≤◌, List, [], ◌∷◌, length, map, slice_index_or, Option, IsSomeAnd, Vec}
use Rattle.lx_encode.specs.declared.runs.Run.{Run}
use Rattle.lx_encode.specs.Runs.{IsRow, LeadBelow, cuts_of, target_of}

-- the rows of a graph, by residual
abbrev pub Rows : Type 0
Rows = List (List Run)

-- the rows of a map from runs to the units at which their targets may change
abbrev pub rows_in : {A : Type 0} → List (Vec Run A × Vec ℕ A) → Rows
rows_in entries = map (λ entry. entry.0.items) entries

-- the units that stand beside the runs are those at which their targets may change
abbrev pub HasItsCuts : {A : Type 0} → Vec Run A × Vec ℕ A → Type 0
HasItsCuts entry = entry.1.items ≡ cuts_of entry.0.items

-- where the units of a residual lead
abbrev pub row_of : Rows → ℕ → List Run
row_of rows residual = slice_index_or rows residual []

-- the residual after one more unit
abbrev pub step_of : Rows → ℕ → ℕ → Option ℕ
step_of rows residual unit = target_of (row_of rows residual) unit

-- the units lead from the residual to the end of a spelling
abbrev pub Finishes : Rows → ℕ → List ℕ → Type 0
Finishes rows residual [] = row_of rows residual ≡ []
Finishes rows residual (unit ∷ units) = IsSomeAnd (step_of rows residual unit) (λ next. Finishes rows next units)

-- residual 0 has nothing left, each row leads to residuals before its own, and no two rows are equal
pub record IsTable (rows : Rows) : Type 0 where
  pub some : 0 < length rows
  pub ended : row_of rows 0 ≡ []
  pub row : (residual : ℕ) → residual < length rows → IsRow (row_of rows residual)
  pub earlier : (residual : ℕ) → residual < length rows → LeadBelow (row_of rows residual) residual
  pub distinct : (left right : ℕ) → left < length rows → right < length rows → row_of rows left ≡ row_of rows right → left ≡ right

-- the rows that were there are there still, and at most this many came to them
pub record GrowsBy (old new : Rows) (count : ℕ) : Type 0 where
  pub longer : length old ≤ length new
  pub at_most : length new ≤ length old + count
  pub same : (residual : ℕ) → residual < length old → row_of new residual ≡ row_of old residual
