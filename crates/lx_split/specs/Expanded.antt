-- What is true of the pieces of a source with its includes put in.
use Rattle.std.specs.Prelude.{◌≡◌, ℕ, ◌<◌, ◌≤◌, false, List, ◌∷◌, ◌++◌, length, codes, None, All}
use Rattle.lx_base.specs.declared.limits.TheConstants.{SOURCE_LIMIT}
use Rattle.lx_base.specs.declared.places.Pos.{Pos}
use Rattle.lx_base.specs.Letters.{begins_with}
use Rattle.lx_split.specs.declared.pieces.SourcePiece.{SourcePiece}
use Rattle.lx_split.specs.declared.pieces.SourcePiece.TheVariants.{Outside, Block}
use Rattle.lx_split.specs.Cuts.{AreApart, HasNoMark, source_text}
use Rattle.lx_split.specs.Includes.{include_of}
use Rattle.lx_split.specs.Marks.{begins_mark}

-- nowhere in the bytes does `/*!` begin
abbrev pub HasNoOpening : List ℕ → Type 0
HasNoOpening bytes = (front tail : List ℕ) → bytes ≡ front ++ tail → begins_with (codes "/*!") tail ≡ false

-- a place in one of so many files, in a line and a column that a source may have
pub record IsPlaceWithin (file_count : ℕ) (place : Pos) : Type 0 where
  pub in_file : place.file < file_count
  pub line : place.line ≤ 16777217
  pub col : place.col ≤ 16777217

-- a block of one of so many files, which is no longer than a source may be
pub record IsBlockWithin (file_count : ℕ) (body : List ℕ) (at body_at : Pos) (last_line : ℕ) : Type 0 where
  pub size : length body ≤ SOURCE_LIMIT
  pub opener : IsPlaceWithin file_count at
  pub start : IsPlaceWithin file_count body_at
  pub same_file : body_at.file ≡ at.file
  pub last : last_line ≤ 16777217

-- no mark stands in an outside text, and a block stands in one of the files
abbrev pub IsPieceWithin : (file_count : ℕ) → SourcePiece → Type 0
IsPieceWithin file_count (Outside text) = HasNoMark text
IsPieceWithin file_count (Block kind body at body_at end_line) = IsBlockWithin file_count body at body_at end_line

-- What is true of the pieces of so many files. No mark stands in their texts put together, also with a `/` before them, and so
-- none stands across the end of an outside text. No include is left.
pub record AreExpanded (file_count : ℕ) (pieces : List SourcePiece) : Type 0 where
  pub each : All (IsPieceWithin file_count) pieces
  pub apart : AreApart pieces
  pub no_mark : HasNoMark (source_text pieces)
  pub completes_no_mark : begins_mark (47 ∷ source_text pieces) ≡ false
  pub no_include : All (λ piece. include_of piece ≡ None) pieces
  pub few : length pieces ≤ SOURCE_LIMIT
