-- The lists with a first unit that finish a residual.
use Rattle.std.specs.Prelude.{◌≡◌, ℕ, ◌↔◌, List, ◌∷◌}
use Rattle.lx_base.specs.declared.settings.Enc.{Enc}
use Rattle.lx_class.specs.declared.ranges.Range.{Range}
use Rattle.lx_class.specs.Ranges.{InRanges}
use Rattle.lx_encode.specs.declared.runs.Run.{Run}
use Rattle.lx_encode.specs.Runs.{LeadsTo}
use Rattle.lx_encode.specs.Table.{Rows, Finishes}
use Rattle.lx_encode.specs.Graph.{Spells}

-- the points of the set lead to residual 0, and nothing else leads anywhere
abbrev pub AreEnded : List Range → List Run → Type 0
AreEnded set points = (point residual : ℕ) → LeadsTo points point residual ↔ (InRanges set point × (0 ≡ residual))

-- they are the spellings of a part of the set
abbrev pub StartsWith : Rows → Enc → List Range → Range → ℕ → Type 0
StartsWith rows enc set part residual =
    (unit : ℕ) (units : List ℕ) → Finishes rows residual (unit ∷ units) ↔ Spells enc set part (unit ∷ units)
