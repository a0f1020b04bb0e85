-- What the lines of a piece depend on beside their statements.
use Rattle.std.specs.Prelude.{ℕ, Bool, List, [], Option, Some, None}
use Rattle.lx_base.specs.Names.{Spellings}
use Rattle.lx_ccode.specs.declared.lines.Scope.{Scope}
use Rattle.lx_ccode.specs.declared.piece.LineMark.{LineMark}
use Rattle.lx_ccode.specs.declared.piece.Piece.{Piece}
use Rattle.lx_ccode.specs.Heads.{is_custom}
use Rattle.lx_ccode.specs.Labels.{standing_labels}

pub record Wording : Type 0 where
  -- the number of the piece
  pub number : ℕ
  pub names : Spellings
  -- register 1 is spelled as the context marker
  pub ctx : Bool
  -- the input is read by primitives of the user's
  pub custom : Bool
  -- the bytes of a code unit
  pub unit : ℕ
  -- for each block, whether its own label stands; where the list has none for a block, it does
  pub labels : List Bool
  -- the name of the file that the text is part of
  pub out : List ℕ

-- the file of a mark, or the empty name
abbrev pub file_of : Option LineMark → List ℕ
file_of None = []
file_of (Some mark) = mark.file

-- that of a piece at a place
abbrev pub wording_of : (place : Option LineMark) → Piece → Wording
wording_of place piece = record {
  number = piece.number;
  names = piece.names;
  ctx = piece.ctx;
  custom = is_custom piece.head;
  unit = piece.unit;
  labels = standing_labels piece;
  out = file_of place;
}

-- that of a scope
abbrev pub scope_wording : Scope → Wording
scope_wording scope = record { number = scope.number; names = scope.names.now; ctx = scope.ctx; custom = scope.custom; unit = scope.unit; labels = scope.labels.now; out = scope.out.now }
