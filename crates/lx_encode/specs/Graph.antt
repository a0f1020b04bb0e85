-- The graph of a class: its residuals, and the unit lists that finish them.
use Rattle.std.specs.Prelude.{◌≡◌, ℕ, ◌<◌, ◌≤◌, ◌⊎◌, ◌↔◌, List, [], ◌∷◌, length, Option, Some, ◌==◌, if◌then◌else◌}
use Rattle.lx_base.specs.Spelling.{spell}
use Rattle.lx_base.specs.declared.settings.Enc.{Enc}
use Rattle.lx_base.specs.declared.settings.Enc.TheVariants.{Byte, Ucs2, Utf8, Utf16, Utf32}
use Rattle.lx_class.specs.Ranges.{InRanges}
use Rattle.lx_class.specs.declared.ranges.Range.{Range}
use Rattle.lx_encode.specs.declared.graph.Residual.{Residual}
use Rattle.lx_encode.specs.Policy.{NoneWithin}
use Rattle.lx_encode.specs.Table.{Rows, Finishes, step_of}

-- what contracts see of a graph
pub record Graph : Type 0 where
  pub starts : List Residual
  pub rows : Rows

-- a residual by its number
abbrev pub numbered : ℕ → Residual
numbered number = record { 0 = number }

-- the start with this number, where 0 stands for none
abbrev pub started : ℕ → List Residual
started number = if number == 0 then [] else numbered number ∷ []

-- no cut is greater than the first number and at most the second
abbrev pub NoneBetween : ℕ → ℕ → List ℕ → Type 0
NoneBetween first second [] = Unit {0}
NoneBetween first second (cut ∷ cuts) = ((cut ≤ first) ⊎ (second < cut)) × NoneBetween first second cuts

-- two units between which no cut stands have the same answer
abbrev pub Separates : List ℕ → (ℕ → Option ℕ) → Type 0
Separates cuts answer_of = (first second : ℕ) → first ≤ second → NoneBetween first second cuts → answer_of first ≡ answer_of second

-- the units spell a point of the set that lies in the part
abbrev pub Spells : Enc → List Range → Range → List ℕ → Type 0
Spells enc set part units =
    (point : ℕ) × InRanges set point × (part.lo ≤ point) × (point ≤ part.hi) × (units ≡ spell enc point)

-- the parts that have a start each, in the order of preference: in UTF-16 the points of two units come first
abbrev pub parts : Enc → List Range
parts Byte = record { lo = 0; hi = 0xFF } ∷ []
parts Ucs2 = record { lo = 0; hi = 0xFFFF } ∷ []
parts Utf8 = record { lo = 0; hi = 0x10FFFF } ∷ []
parts Utf16 = record { lo = 0x10000; hi = 0x10FFFF } ∷ record { lo = 0; hi = 0xFFFF } ∷ []
parts Utf32 = record { lo = 0; hi = 0x10FFFF } ∷ []

-- the start is finished by the spellings of one part of the set
abbrev pub IsStart : Rows → Enc → List Range → Range → Residual → Type 0
IsStart rows enc set part start =
    (start.0 < length rows) × ((units : List ℕ) → Finishes rows start.0 units ↔ Spells enc set part units)

-- a start for each part that has a point of the set, in the order of the parts
abbrev pub AreStarts : Rows → Enc → List Range → List Range → List Residual → Type 0
AreStarts rows enc set [] starts = starts ≡ []
AreStarts rows enc set (part ∷ others) starts =
    (NoneWithin set part.lo part.hi × AreStarts rows enc set others starts)
    ⊎ ((start : Residual) × (rest : List Residual) × (starts ≡ start ∷ rest) × IsStart rows enc set part start
    × AreStarts rows enc set others rest)

-- the graph of a set
pub record IsGraphOf (enc : Enc) (set : List Range) (graph : Graph) : Type 0 where
  pub starts : AreStarts graph.rows enc set (parts enc) graph.starts
  pub within : (residual unit next : ℕ) → residual < length graph.rows → step_of graph.rows residual unit ≡ Some next
      → next < length graph.rows
  pub live : (residual : ℕ) → residual < length graph.rows → (units : List ℕ) × Finishes graph.rows residual units
  pub same : (left right : ℕ) → left < length graph.rows → right < length graph.rows →
      ((units : List ℕ) → Finishes graph.rows left units ↔ Finishes graph.rows right units) → left ≡ right
