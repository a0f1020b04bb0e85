-- How an output is cut at its marks: into the texts outside of pieces, and the pieces.
use Rattle.std.specs.Prelude.{◌≡◌, ◌≢◌, ℕ, Bool, true, false, List, [], ◌∷◌, ◌++◌, drop, codes, Option, Some, None}
use Rattle.std.specs.Fmt.{decimal}
use Rattle.lx_base.specs.Letters.{begins_with}
use Rattle.lx_base.specs.Text.{joined}
use Rattle.lx_ccode.specs.Front.{IsPlaced}
use Rattle.lx_ccode.specs.Marks.{HasNoBegin}
use Rattle.lx_ccode.specs.Text.{piece_text}
use Rattle.lx_ccode.specs.Validity.{IsShort, IsValid}
use Rattle.lx_ccode.specs.declared.piece.LineMark.{LineMark}
use Rattle.lx_ccode.specs.declared.piece.Piece.{Piece}

-- a part of an output
pub data OutputPart : Type 0 where
  -- a text outside of pieces
  outside : (text : List ℕ) → OutputPart
  -- the piece of a scanner, with its place in the output where it has one
  scanner : (place : Option LineMark) → Piece → OutputPart
  -- the piece with this number, which has no scanner, and this text between the line of its begin mark and its end mark
  bare : (number : ℕ) → (inner : List ℕ) → OutputPart

-- its bytes
abbrev pub part_text : OutputPart → List ℕ
part_text (outside text) = text
part_text (scanner place piece) = piece_text place piece
part_text (bare number inner) = joined (codes "/*!begin:re2c " ∷ decimal number ∷ codes "*/\n" ∷ []) (inner ++ codes "/*!end:re2c*/")

-- the bytes of the parts, one behind another
abbrev pub parts_text : List OutputPart → List ℕ
parts_text [] = []
parts_text (part ∷ parts) = part_text part ++ parts_text parts

abbrev pub begins_outside : List OutputPart → Bool
begins_outside (outside text ∷ parts) = true
begins_outside _ = false

-- nowhere in the bytes does `/*!` begin
abbrev pub HasNoOpener : List ℕ → Type 0
HasNoOpener bytes = (front tail : List ℕ) → bytes ≡ front ++ tail → begins_with (codes "/*!") tail ≡ false

-- The parts are those that the marks tell. No outside text is empty, and no two stand side by side. No begin mark begins in an
-- outside text, nor in a piece but at its front, also with what stands behind. The pieces of scanners are valid, and in one
-- without a scanner no `/*!` begins between its marks.
abbrev pub AreCut : List OutputPart → Type 0
AreCut [] = Unit {0}
AreCut (outside text ∷ parts) =
    (text ≢ []) × (begins_outside parts ≡ false) × HasNoBegin text (parts_text parts) × AreCut parts
AreCut (scanner place piece ∷ parts) =
    IsValid piece × IsPlaced place piece × HasNoBegin (drop 1 (piece_text place piece)) (parts_text parts) × AreCut parts
AreCut (bare number inner ∷ parts) =
    IsShort number × HasNoOpener inner × HasNoBegin (drop 1 (part_text (bare number inner))) (parts_text parts) × AreCut parts

-- the part is the piece that is asked for: that with a number, or else that of a scanner
abbrev pub Answers : (block : Option ℕ) → OutputPart → Type 0
Answers block (outside text) = ⊥
Answers (Some number) (scanner place piece) = piece.number ≡ number
Answers (Some number) (bare other inner) = other ≡ number
Answers None (scanner place piece) = Unit {0}
Answers None (bare number inner) = ⊥
