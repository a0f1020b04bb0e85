-- Where the begin mark of a piece stands.
use Rattle.std.specs.Prelude.{◌≡◌, ℕ, ◌<◌, ◌^◌, Bool, true, false, List, ◌++◌, drop, length, slice_index, codes, Option, Some, None}
use Rattle.std.specs.Fmt.{decimal}

-- the begin mark of the piece with this number
abbrev pub begin_mark : ℕ → List ℕ
begin_mark number = codes "/*!begin:re2c " ++ (decimal number ++ codes "*/")

-- what stands at once behind the begin mark of a scanner: the line of its head, or that of its spellings
abbrev pub scanner_line : (headed : Bool) → List ℕ
scanner_line false = codes "\n/*!names:re2c "
scanner_line true = codes "\n/*!head:re2c "

-- here stands the begin mark of the piece with this number; without a number, the begin mark of some scanner,
-- behind whose line feed the line of a head or of the spellings stands at once
abbrev pub BeginsBlock : Option ℕ → List ℕ → Type 0
BeginsBlock (Some number) bytes = (rest : List ℕ) × (bytes ≡ begin_mark number ++ rest)
BeginsBlock None bytes =
    (number : ℕ) × (number < 2 ^ 32) × (headed : Bool) × (rest : List ℕ) × (bytes ≡ begin_mark number ++ (scanner_line headed ++ rest))

-- the block begins at this offset, and at none before it
pub record IsFirstBegin (block : Option ℕ) (bytes : List ℕ) (offset : ℕ) : Type 0 where
  pub begins : BeginsBlock block (drop offset bytes)
  pub none_before : (place : ℕ) → place < offset → BeginsBlock block (drop place bytes) → ⊥

-- there is a digit, and the first one is 0 only where it is the only one
abbrev pub HasNoNeedlessZero : (digits : List ℕ) → Type 0
HasNoNeedlessZero digits = (0 < length digits) × (slice_index digits 0 ≡ 48 → length digits ≡ 1)
