-- What is true of the pieces of a source.
use Rattle.std.specs.Prelude.{◌≡◌, ◌≢◌, ℕ, ◌<◌, Bool, true, false, List, [], ◌∷◌, ◌++◌, length, drop, codes, Some, None}
use Rattle.lx_base.specs.declared.blocks.BlockKind.{BlockKind}
use Rattle.lx_base.specs.declared.places.Pos.{Pos}
use Rattle.lx_base.specs.declared.settings.Options.{Options}
use Rattle.lx_base.specs.declared.faults.Fault.{Fault}
use Rattle.lx_base.specs.declared.faults.Fault.TheVariants.{Directive, MarkInSource, Unclosed}
use Rattle.lx_base.specs.Places.{place_after}
use Rattle.lx_split.specs.declared.pieces.SourcePiece.{SourcePiece}
use Rattle.lx_split.specs.declared.pieces.SourcePiece.TheVariants.{Outside, Block}
use Rattle.lx_split.specs.Marks.{begins_mark}
use Rattle.lx_split.specs.declared.openers.Opener.TheVariants.{Absent, Refused, Opens}
use Rattle.lx_split.specs.Openers.{word_of, opener_at}
use Rattle.lx_split.specs.Bodies.{after_block}
use Rattle.lx_split.specs.Pieces.{opener_size}

-- the bytes of a piece
abbrev pub piece_text : SourcePiece → List ℕ
piece_text (Outside text) = text
piece_text (Block kind body at body_at end_line) = codes "/*!" ++ word_of kind ++ body ++ codes "*/"

-- the bytes of the pieces, one behind another
abbrev pub source_text : List SourcePiece → List ℕ
source_text [] = []
source_text (piece ∷ pieces) = piece_text piece ++ source_text pieces

-- in pieces that begin at a place, each block has the places of its opener and of its body, and the line of its `*/`
abbrev pub AreAtPlaces : Pos → List SourcePiece → Type 0
AreAtPlaces start [] = Unit {0}
AreAtPlaces start (Outside text ∷ pieces) = AreAtPlaces (place_after start text) pieces
AreAtPlaces start (Block kind body at body_at end_line ∷ pieces) =
    (at ≡ start) × (body_at ≡ place_after start (codes "/*!" ++ word_of kind)) × (end_line ≡ (place_after body_at body).line)
    × AreAtPlaces (place_after start (piece_text (Block kind body at body_at end_line))) pieces

abbrev pub begins_outside : List SourcePiece → Bool
begins_outside [] = false
begins_outside (Outside text ∷ pieces) = true
begins_outside (Block kind body at body_at end_line ∷ pieces) = false

-- no outside text is empty, and no two stand side by side
abbrev pub AreApart : List SourcePiece → Type 0
AreApart [] = Unit {0}
AreApart (Outside text ∷ pieces) = (text ≢ []) × (begins_outside pieces ≡ false) × AreApart pieces
AreApart (Block kind body at body_at end_line ∷ pieces) = AreApart pieces

-- no mark stands in the bytes
abbrev pub HasNoMark : List ℕ → Type 0
HasNoMark bytes = (front tail : List ℕ) → bytes ≡ front ++ tail → begins_mark tail ≡ false

-- at none of so many places from the front of a text on does an opener begin
abbrev pub HasNoOpener : Options → (count : ℕ) → List ℕ → Type 0
HasNoOpener options count bytes = (front tail : List ℕ) → bytes ≡ front ++ tail → length front < count → opener_at options tail ≡ Absent

-- what follows a piece in a text that begins with it
abbrev pub behind_piece : SourcePiece → List ℕ → List ℕ
behind_piece piece bytes = drop (length (piece_text piece)) bytes

-- in pieces at the front of a text, no opener begins in an outside text, also across its end; each block has its opener at
-- its front, and ends where its body does
abbrev pub AreOpened : Options → (bytes : List ℕ) → List SourcePiece → Type 0
AreOpened options bytes [] = Unit {0}
AreOpened options bytes (Outside text ∷ pieces) =
    HasNoOpener options (length text) bytes × AreOpened options (behind_piece (Outside text) bytes) pieces
AreOpened options bytes (Block kind body at body_at end_line ∷ pieces) =
    (opener_at options bytes ≡ Opens kind)
    × (after_block kind (drop (opener_size kind) bytes) ≡ Some (behind_piece (Block kind body at body_at end_line) bytes))
    × AreOpened options (behind_piece (Block kind body at body_at end_line) bytes) pieces

-- what is true of the pieces of a source that begins at a place
pub record AreCut (start : Pos) (bytes : List ℕ) (pieces : List SourcePiece) : Type 0 where
  pub text : source_text pieces ≡ bytes
  pub at_places : AreAtPlaces start pieces
  pub apart : AreApart pieces
  pub no_mark : HasNoMark bytes
  pub completes_no_mark : begins_mark (47 ∷ bytes) ≡ false

-- the fault of an opener at the front of a text and at a place: it is refused, or its block has no end
pub data IsOpenerFault (options : Options) (at : Pos) (text : List ℕ) (fault : Fault) : Type 0 where
  refused : opener_at options text ≡ Refused → fault ≡ Directive at → IsOpenerFault options at text fault
  unclosed : (kind : BlockKind) → opener_at options text ≡ Opens kind → after_block kind (drop (opener_size kind) text) ≡ None →
      fault ≡ Unclosed at → IsOpenerFault options at text fault

-- the fault of a source that begins at a place: behind some pieces of it stands an opener with this fault, and it is the first
-- one, since all openers before it are those of pieces
pub record IsFaultBehind (options : Options) (start : Pos) (bytes : List ℕ) (fault : Fault) : Type 0 where
  pub done : List SourcePiece
  pub rest : List ℕ
  pub text : bytes ≡ source_text done ++ rest
  pub at_places : AreAtPlaces start done
  pub opened : AreOpened options bytes done
  pub is_fault : IsOpenerFault options (place_after start (source_text done)) rest fault

-- the fault of a source with a mark: behind some bytes of it stands a mark, and none stands before
pub record IsMarkFault (start : Pos) (bytes : List ℕ) (fault : Fault) : Type 0 where
  pub front : List ℕ
  pub tail : List ℕ
  pub text : bytes ≡ front ++ tail
  pub mark : begins_mark tail ≡ true
  pub first : (inner rest : List ℕ) → bytes ≡ inner ++ rest → length inner < length front → begins_mark rest ≡ false
  pub is_fault : fault ≡ MarkInSource (place_after start front)

-- what is true of the fault of a source that begins at a place: a `/` before it completes a mark; else a mark stands in it;
-- else an opener is faulty
pub data IsFaultOf (options : Options) (start : Pos) (bytes : List ℕ) (fault : Fault) : Type 0 where
  completed : begins_mark (47 ∷ bytes) ≡ true → fault ≡ MarkInSource start → IsFaultOf options start bytes fault
  marked : begins_mark (47 ∷ bytes) ≡ false → IsMarkFault start bytes fault → IsFaultOf options start bytes fault
  faulty : begins_mark (47 ∷ bytes) ≡ false → HasNoMark bytes → IsFaultBehind options start bytes fault → IsFaultOf options start bytes fault
