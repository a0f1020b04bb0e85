-- Where the text of a piece stands.
use Rattle.std.specs.Prelude.{◌≡◌, ℕ, Option, List, ◌++◌, is_some, if◌then◌else◌, false}
use Rattle.lx_ccode.specs.declared.piece.LineMark.{LineMark}
use Rattle.lx_ccode.specs.declared.piece.Piece.{Piece}
use Rattle.lx_ccode.specs.Heads.{is_three}
use Rattle.lx_ccode.specs.Text.{piece_text}
use Rattle.lx_ccode.specs.Validity.{IsLine, IsValid}

-- A piece of format 3 that tells the C compiler its own place in the source has a place in the output, the line of its brace, which
-- has a spelling; and no other piece has one.
pub record IsPlaced (place : Option LineMark) (piece : Piece) : Type 0 where
  pub line : IsLine place
  pub stands : is_some place ≡ (if is_three piece.head then is_some piece.line else false)

-- the piece is valid, and its text stands at the front of the bytes, with a place where it has one
pub record BeginsWithPiece (bytes : List ℕ) (piece : Piece) : Type 0 where
  pub valid : IsValid piece
  pub place : Option LineMark
  pub placed : IsPlaced place piece
  pub rest : List ℕ
  pub text : bytes ≡ piece_text place piece ++ rest

-- the text of the piece, with this place, stands at the front of the bytes
abbrev pub BeginsWithPieceAt : (bytes : List ℕ) → (place : Option LineMark) → Piece → Type 0
BeginsWithPieceAt bytes place piece = (rest : List ℕ) × (bytes ≡ piece_text place piece ++ rest)

-- the bytes do not begin with the text, whatever stands behind it
abbrev pub IsNoFront : (text : List ℕ → List ℕ) → (bytes : List ℕ) → Type 0
IsNoFront text bytes = (tail : List ℕ) → bytes ≡ text tail → ⊥
