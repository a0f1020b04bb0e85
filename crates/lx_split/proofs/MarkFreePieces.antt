-- The pieces of a file are sound.
use Rattle.std.proofs.Common.{◌≡◌, ◌≢◌, ℕ, ◌+◌, ◌<◌, ◌≤◌, Bool, false, ◌&&◌, List, [], ◌∷◌, ◌++◌, length, codes, None, Ok, refl, sym, ◌∙◌, ap, subst, arith, append_assoc, append-nil, length-append}
use Rattle.std.specs.Prelude.{All}
use Rattle.std.proofs.lemmas.List.Elements.{All-nil, All-cons}
use Rattle.lx_base.specs.declared.blocks.BlockKind.{BlockKind}
use Rattle.lx_base.specs.declared.places.Pos.{Pos}
use Rattle.lx_base.specs.declared.settings.Options.{Options}
use Rattle.lx_base.specs.Places.{file_start, place_after}
use Rattle.lx_split.specs.declared.pieces.SourcePiece.{SourcePiece}
use Rattle.lx_split.specs.declared.pieces.SourcePiece.TheVariants.{Outside, Block}
use Rattle.lx_split.specs.Cuts.{AreApart, AreAtPlaces, HasNoMark, begins_outside, piece_text, source_text}
use Rattle.lx_split.specs.Expanded.{AreExpanded, IsPieceWithin, IsBlockWithin, IsPlaceWithin}
use Rattle.lx_split.specs.Includes.{include_of}
use Rattle.lx_split.specs.Marks.{begins_mark}
use Rattle.lx_split.specs.Openers.{word_of}
use Rattle.lx_split.specs.Pieces.{pieces_of}
use Rattle.lx_split.proofs.Cutting.{pieces_of-cut}
use Rattle.lx_split.proofs.PlaceBounds.{place_after-file, place_after-line, place_after-col}
use Rattle.lx_split.proofs.Straddles.{HasNone-append, HasNone-behind, HasNone-cons, HasNone-front, HasNone-nil, StopsAtSlash-mark}

-- a sound piece, with no mark in its text, also with a `/` before an outside one
abbrev pub IsMarkFree : (file_count : ℕ) → SourcePiece → Type 0
IsMarkFree file_count (Outside text) = (text ≢ []) × HasNoMark (47 ∷ text)
IsMarkFree file_count (Block kind body at body_at end_line) =
    IsBlockWithin file_count body at body_at end_line × HasNoMark (piece_text (Block kind body at body_at end_line))

-- no outside text stands before another one
abbrev pub FitsBefore : SourcePiece → List SourcePiece → Type 0
FitsBefore piece pieces = (begins_outside (piece ∷ []) && begins_outside pieces) ≡ false

abbrev pub AreMarkFree : (file_count : ℕ) → List SourcePiece → Type 0
AreMarkFree file_count [] = Unit {0}
AreMarkFree file_count (piece ∷ pieces) = IsMarkFree file_count piece × FitsBefore piece pieces × AreMarkFree file_count pieces

-- ---- more files

IsPlaceWithin-more : (count more : ℕ) (place : Pos) → count ≤ more → IsPlaceWithin count place → IsPlaceWithin more place
IsPlaceWithin-more count more place le sound =
    record { in_file = let file = sound.in_file in omega arith; line = sound.line; col = sound.col }

IsBlockWithin-more : (count more : ℕ) (body : List ℕ) (at body_at : Pos) (last_line : ℕ) → count ≤ more →
    IsBlockWithin count body at body_at last_line → IsBlockWithin more body at body_at last_line
IsBlockWithin-more count more body at body_at last_line le sound = record {
  size = sound.size;
  opener = IsPlaceWithin-more count more at le sound.opener;
  start = IsPlaceWithin-more count more body_at le sound.start;
  same_file = sound.same_file;
  last = sound.last;
}

pub IsMarkFree-more : (count more : ℕ) (piece : SourcePiece) → count ≤ more → IsMarkFree count piece → IsMarkFree more piece
IsMarkFree-more count more (Outside text) le fine = fine
IsMarkFree-more count more (Block kind body at body_at end_line) le fine =
    (IsBlockWithin-more count more body at body_at end_line le fine.0, fine.1)

pub AreMarkFree-more : (count more : ℕ) (pieces : List SourcePiece) → count ≤ more → AreMarkFree count pieces → AreMarkFree more pieces
AreMarkFree-more count more [] le fine = tt
AreMarkFree-more count more (piece ∷ pieces) le fine =
    (IsMarkFree-more count more piece le fine.0, fine.1, AreMarkFree-more count more pieces le fine.2)

-- ---- pieces before a block

begins_outside-before : (pieces : List SourcePiece) (kind : BlockKind) (body : List ℕ) (at body_at : Pos) (end_line : ℕ)
    (rest : List SourcePiece) → begins_outside (pieces ++ Block kind body at body_at end_line ∷ rest) ≡ begins_outside pieces
begins_outside-before [] kind body at body_at end_line rest = refl
begins_outside-before (Outside text ∷ pieces) kind body at body_at end_line rest = refl
begins_outside-before (Block other inner place start last ∷ pieces) kind body at body_at end_line rest = refl

pub AreMarkFree-append : (count : ℕ) (pieces : List SourcePiece) (kind : BlockKind) (body : List ℕ) (at body_at : Pos) (end_line : ℕ)
    (rest : List SourcePiece) → AreMarkFree count pieces → AreMarkFree count (Block kind body at body_at end_line ∷ rest) →
    AreMarkFree count (pieces ++ Block kind body at body_at end_line ∷ rest)
AreMarkFree-append count [] kind body at body_at end_line rest first second = second
AreMarkFree-append count (piece ∷ pieces) kind body at body_at end_line rest first second = (
  first.0,
  ap (λ (b : Bool). begins_outside (piece ∷ []) && b) (begins_outside-before pieces kind body at body_at end_line rest) ∙ first.1,
  AreMarkFree-append count pieces kind body at body_at end_line rest first.2 second,
)

-- ---- from the pieces of a file

-- a block's text ends with a `/`
block-text-end : (kind : BlockKind) (body after : List ℕ) →
    (codes "/*!" ++ word_of kind ++ body ++ codes "*/") ++ after ≡ (codes "/*!" ++ word_of kind ++ body ++ codes "*") ++ 47 ∷ after
block-text-end kind body after = simp append_assoc

-- behind outside text stands nothing, or a `/`
source_text-slash : (pieces : List SourcePiece) → begins_outside pieces ≡ false → HasNoMark (source_text pieces) →
    HasNoMark (47 ∷ source_text pieces)
source_text-slash [] none free = HasNone-cons begins_mark 47 [] refl free
source_text-slash (Outside text ∷ pieces) none free = absurd (cc)
source_text-slash (Block kind body at body_at end_line ∷ pieces) none free =
    HasNone-cons begins_mark 47 (source_text (Block kind body at body_at end_line ∷ pieces)) refl free

module _ (count : ℕ) where
  sound-place : (start : Pos) (text : List ℕ) → start.file < count → start.line + length text ≤ 16777217 →
      start.col + length text ≤ 16777217 → IsPlaceWithin count (place_after start text)
  sound-place start text in_file line col = record {
    in_file = let same = place_after-file start text in omega arith;
    line = let bound = place_after-line start text in omega arith;
    col = let bound = place_after-col start text in omega arith;
  }

  fine-from : (start : Pos) (pieces : List SourcePiece) → AreAtPlaces start pieces → AreApart pieces → HasNoMark (47 ∷ source_text pieces) →
      start.file < count → length (source_text pieces) ≤ 16777216 → start.line + length (source_text pieces) ≤ 16777217 →
      start.col + length (source_text pieces) ≤ 16777217 → AreMarkFree count pieces
  fine-from start [] places apart free in_file size line col = tt
  fine-from start (Outside text ∷ pieces) places apart free in_file size line col =
      let both = length-append text (source_text pieces) in
      let next_line = place_after-line start text in
      let next_col = place_after-col start text in
      let next_file = place_after-file start text in
      let behind = HasNone-behind begins_mark (47 ∷ text) (source_text pieces) free in (
        (apart.0, HasNone-front begins_mark StopsAtSlash-mark (47 ∷ text) (source_text pieces) free),
        apart.1,
        fine-from (place_after start text) pieces places apart.2 (source_text-slash pieces apart.1 behind)
            (omega arith) (omega arith) (omega arith) (omega arith),
      )
  fine-from start (Block kind body at body_at end_line ∷ pieces) places apart free in_file size line col =
      let text = piece_text (Block kind body at body_at end_line) in
      let opener = codes "/*!" ++ word_of kind in
      let both = length-append text (source_text pieces) in
      let next_line = place_after-line start text in
      let next_col = place_after-col start text in
      let next_file = place_after-file start text in
      let inner : length text ≡ length opener + length body + 2 =
      omega (arith, length-append (word_of kind ++ body) (codes "*/"), length-append (word_of kind) body) in
      let own = HasNone-behind begins_mark (47 ∷ []) (text ++ source_text pieces) free in
      let behind = HasNone-behind begins_mark (codes "/*!" ++ word_of kind ++ body ++ codes "*") (47 ∷ source_text pieces)
      (subst HasNoMark (block-text-end kind body (source_text pieces)) own) in
      let opener_end : IsPlaceWithin count (place_after start opener) = sound-place start opener in_file (omega arith) (omega arith) in
      let body_end = place_after-line (place_after start opener) body in
      let opener_line = place_after-line start opener in
      let start_is : body_at ≡ place_after start opener = places.1 in (
        (
          record {
            size = omega arith;
            opener = rw places.0 (record { in_file = in_file; line = omega arith; col = omega arith });
            start = rw start_is opener_end;
            same_file = rw (places.0, start_is) (place_after-file start opener);
            last = rw (places.2, start_is) (omega arith);
          },
          HasNone-front begins_mark StopsAtSlash-mark text (source_text pieces) own,
        ),
        refl,
        fine-from (place_after start text) pieces places.3 apart behind (omega arith) (omega arith) (omega arith) (omega arith),
      )

  -- the pieces of a file are fine
  pub pieces_of-fine : (options : Options) (file : ℕ) (bytes : List ℕ) (pieces : List SourcePiece) →
      pieces_of options file bytes ≡ Ok pieces → length bytes ≤ 16777216 → file < count → AreMarkFree count pieces
  pieces_of-fine options file bytes pieces is size in_file =
      let cut = pieces_of-cut options file bytes pieces is in
      let text = ap length cut.text in
      let free =
      HasNone-cons begins_mark 47 (source_text pieces)
      (subst (λ (l : List ℕ). begins_mark (47 ∷ l) ≡ false) (sym cut.text) cut.completes_no_mark)
      (subst HasNoMark (sym cut.text) cut.no_mark) in
      fine-from (file_start file) pieces cut.at_places cut.apart free in_file (omega arith) (omega arith) (omega arith)

  -- ---- to what is said of them

  AreMarkFree-each : (pieces : List SourcePiece) → AreMarkFree count pieces → All (IsPieceWithin count) pieces
  AreMarkFree-each [] fine = All-nil (IsPieceWithin count)
  AreMarkFree-each (Outside text ∷ pieces) fine =
      All-cons (IsPieceWithin count) (Outside text) pieces (HasNone-behind begins_mark (47 ∷ []) text fine.0.1) (AreMarkFree-each pieces fine.2)
  AreMarkFree-each (Block kind body at body_at end_line ∷ pieces) fine =
      All-cons (IsPieceWithin count) (Block kind body at body_at end_line) pieces fine.0.0 (AreMarkFree-each pieces fine.2)

  AreMarkFree-apart : (pieces : List SourcePiece) → AreMarkFree count pieces → AreApart pieces
  AreMarkFree-apart [] fine = tt
  AreMarkFree-apart (Outside text ∷ pieces) fine = (fine.0.0, fine.1, AreMarkFree-apart pieces fine.2)
  AreMarkFree-apart (Block kind body at body_at end_line ∷ pieces) fine = AreMarkFree-apart pieces fine.2

  -- outside text, and what begins with a `/` or is nothing
  unmarked-outside : (text : List ℕ) (pieces : List SourcePiece) → HasNoMark (47 ∷ text) → begins_outside pieces ≡ false →
      HasNoMark (47 ∷ source_text pieces) → HasNoMark (47 ∷ text ++ source_text pieces)
  unmarked-outside text [] free none behind = subst HasNoMark (ap (λ (l : List ℕ). 47 ∷ l) (sym (append-nil text))) free
  unmarked-outside text (Outside other ∷ pieces) free none behind = absurd (cc)
  unmarked-outside text (Block kind body at body_at end_line ∷ pieces) free none behind =
      HasNone-append begins_mark StopsAtSlash-mark (47 ∷ text) (codes "*!" ++ word_of kind ++ body ++ codes "*/" ++ source_text pieces) free
      (subst HasNoMark (block-text-slash kind body (source_text pieces))
      (HasNone-behind begins_mark (47 ∷ []) (source_text (Block kind body at body_at end_line ∷ pieces)) behind))
    where
      block-text-slash : (kind : BlockKind) (body after : List ℕ) →
          (codes "/*!" ++ word_of kind ++ body ++ codes "*/") ++ after ≡ 47 ∷ (codes "*!" ++ word_of kind ++ body ++ codes "*/" ++ after)
      block-text-slash kind body after = simp append_assoc

  AreMarkFree-unmarked : (pieces : List SourcePiece) → AreMarkFree count pieces → HasNoMark (47 ∷ source_text pieces)
  AreMarkFree-unmarked [] fine = HasNone-cons begins_mark 47 [] refl (HasNone-nil begins_mark StopsAtSlash-mark)
  AreMarkFree-unmarked (Outside text ∷ pieces) fine = unmarked-outside text pieces fine.0.1 fine.1 (AreMarkFree-unmarked pieces fine.2)
  AreMarkFree-unmarked (Block kind body at body_at end_line ∷ pieces) fine =
      let front = codes "/*!" ++ word_of kind ++ body ++ codes "*" in
      let text = piece_text (Block kind body at body_at end_line) in
      let own =
      HasNone-front begins_mark StopsAtSlash-mark front (47 ∷ [])
      (subst HasNoMark (sym (append-nil text) ∙ block-text-end kind body []) fine.0.1) in
      let whole = HasNone-append begins_mark StopsAtSlash-mark front (source_text pieces) own (AreMarkFree-unmarked pieces fine.2) in
      HasNone-cons begins_mark 47 (text ++ source_text pieces) refl
      (subst HasNoMark (sym (block-text-end kind body (source_text pieces))) whole)

  pub AreMarkFree-sound : (pieces : List SourcePiece) → AreMarkFree count pieces → All (λ piece. include_of piece ≡ None) pieces →
      length pieces ≤ 16777216 → AreExpanded count pieces
  AreMarkFree-sound pieces fine no_include few = record {
    each = AreMarkFree-each pieces fine;
    apart = AreMarkFree-apart pieces fine;
    no_mark = HasNone-behind begins_mark (47 ∷ []) (source_text pieces) (AreMarkFree-unmarked pieces fine);
    completes_no_mark = AreMarkFree-unmarked pieces fine [] (47 ∷ source_text pieces) refl;
    no_include = no_include;
    few = few;
  }
