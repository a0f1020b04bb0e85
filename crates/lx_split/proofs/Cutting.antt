-- The pieces of a source are cut from it.
use Rattle.std.proofs.Common.{◌≡◌, ℕ, zero, suc, ◌-◌, ◌<◌, ◌≤◌, Bool, true, false, cond, List, [], ◌∷◌, ◌++◌, length, take, drop, codes, Option, Some, None, Ok, refl, sym, ◌∙◌, ap, subst, arith, length-append, append_assoc, append-nil}
use Rattle.std.proofs.lemmas.List.{length-drop}
use Rattle.lx_base.specs.declared.blocks.BlockKind.{BlockKind}
use Rattle.lx_base.specs.declared.places.Pos.{Pos}
use Rattle.lx_base.specs.declared.settings.Options.{Options}
use Rattle.lx_base.specs.Places.{place_after, file_start}
use Rattle.lx_token.specs.Tokens.{place_of_rest}
use Rattle.lx_token.proofs.Ends.{IsEnd}
use Rattle.lx_token.proofs.Walk.{IsEnd-drop_is, place_after-append}
use Rattle.lx_split.specs.declared.openers.Opener.{Opener}
use Rattle.lx_split.specs.declared.openers.Opener.TheVariants.{Absent, Refused, Opens}
use Rattle.lx_split.specs.declared.pieces.SourcePiece.{SourcePiece}
use Rattle.lx_split.specs.Searches.{from_first}
use Rattle.lx_split.specs.Marks.{begins_mark, mark_place, place_if_any}
use Rattle.lx_split.specs.Openers.{from_opener, is_present, opener_at, word_of}
use Rattle.lx_split.specs.Bodies.{after_block}
use Rattle.lx_split.specs.Pieces.{Split, at_end, at_opener, before, block, body_before, opener_size, outside, pieces_from, pieces_of, pieces_without_marks, unless_marked}
use Rattle.lx_split.specs.Cuts.{AreApart, AreAtPlaces, AreCut, AreOpened, HasNoMark, piece_text, source_text}
use Rattle.lx_split.proofs.BlockEnds.{IsEnd-split, after_block-closes}
use Rattle.lx_split.proofs.Needles.{from_first-end}
use Rattle.lx_split.proofs.OpenerTexts.{opener-text}
use Rattle.lx_split.proofs.Openings.{AreOpened-last, AreOpened-outside, drop-behind}

from_first-holds : (test : List ℕ → Bool) (text : List ℕ) → test (from_first test text) ≡ false → from_first test text ≡ []
from_first-holds test [] fails = refl
from_first-holds test (letter ∷ text) fails = at (test (letter ∷ text)) refl (from_first-holds test text) fails
  where
    at : (b : Bool) → test (letter ∷ text) ≡ b → (test (from_first test text) ≡ false → from_first test text ≡ []) →
        test (cond b (letter ∷ text) (from_first test text)) ≡ false → cond b (letter ∷ text) (from_first test text) ≡ []
    at true is later fails = absurd (cc)
    at false is later fails = later fails

before-append : (front back : List ℕ) → before (front ++ back) back ≡ front
before-append [] back =
    let none : length back - length back ≡ 0 = omega arith in rw none
before-append (letter ∷ front) back =
    let size = length-append front back in
    let count : length ((letter ∷ front) ++ back) - length back ≡ suc (length (front ++ back) - length back) = omega arith in
    rw count (ap (λ (l : List ℕ). letter ∷ l) (before-append front back))

take-front : (front back : List ℕ) → take (length front) (front ++ back) ≡ front
take-front [] back = refl
take-front (letter ∷ front) back = ap (λ (l : List ℕ). letter ∷ l) (take-front front back)

pub outside-text : (text : List ℕ) → source_text (outside text) ≡ text
outside-text [] = refl
outside-text (letter ∷ text) = append-nil (letter ∷ text)

pub outside-before : (text : List ℕ) (pieces : List SourcePiece) → source_text (outside text ++ pieces) ≡ text ++ source_text pieces
outside-before [] pieces = refl
outside-before (letter ∷ text) pieces = refl

pub AreAtPlaces-outside : (start : Pos) (text : List ℕ) (pieces : List SourcePiece) → AreAtPlaces (place_after start text) pieces →
    AreAtPlaces start (outside text ++ pieces)
AreAtPlaces-outside start [] pieces places = places
AreAtPlaces-outside start (letter ∷ text) pieces places = places

AreApart-outside : (text : List ℕ) (kind : BlockKind) (at : Pos) (rest tail : List ℕ) (pieces : List SourcePiece) → AreApart pieces →
    AreApart (outside text ++ block kind at rest tail ∷ pieces)
AreApart-outside [] kind at rest tail pieces apart = apart
AreApart-outside (letter ∷ text) kind at rest tail pieces apart = ((λ none. cc), refl, apart)

pub AreAtPlaces-last : (start : Pos) (text : List ℕ) → AreAtPlaces start (outside text)
AreAtPlaces-last start [] = tt
AreAtPlaces-last start (letter ∷ text) = tt

AreApart-last : (text : List ℕ) → AreApart (outside text)
AreApart-last [] = tt
AreApart-last (letter ∷ text) = ((λ none. cc), refl, tt)

-- a block and what follows it
module _ (options : Options) (kind : BlockKind) (rest tail : List ℕ) (opener : opener_at options rest ≡ Opens kind)
    (closed : after_block kind (drop (opener_size kind) rest) ≡ Some tail) where
  abbrev front : List ℕ
  front = codes "/*!" ++ word_of kind

  abbrev behind : List ℕ
  behind = drop (opener_size kind) rest

  abbrev body : List ℕ
  body = body_before behind tail

  closing : IsEnd behind (42 ∷ 47 ∷ tail)
  closing = after_block-closes kind behind tail closed

  behind-text : behind ≡ body ++ 42 ∷ 47 ∷ tail
  behind-text =
      let count : length behind - length (42 ∷ 47 ∷ tail) ≡ length behind - length tail - 2 = omega arith in
      rw count at (IsEnd-split behind (42 ∷ 47 ∷ tail) closing)

  rest-text : rest ≡ front ++ (body ++ 42 ∷ 47 ∷ tail)
  rest-text = opener-text options rest kind opener ∙ ap (λ (l : List ℕ). front ++ l) behind-text

  pub block-text : (at : Pos) → rest ≡ piece_text (block kind at rest tail) ++ tail
  block-text at = simp append_assoc rest-text

  pub block-before : (at : Pos) → before rest tail ≡ piece_text (block kind at rest tail)
  block-before at =
      let text = piece_text (block kind at rest tail) in
      ap (λ (l : List ℕ). before l tail) (block-text at) ∙ before-append text tail

  pub block-shorter : length tail < length rest
  block-shorter =
      let within = (IsEnd-drop_is behind (42 ∷ 47 ∷ tail) closing).within in
      let size = length-drop (opener_size kind) rest in omega arith

  take-opener : take (opener_size kind) rest ≡ front
  take-opener =
      let size : opener_size kind ≡ length front = omega arith in
      rw size (ap (λ (l : List ℕ). take (length front) l) (opener-text options rest kind opener) ∙ take-front front behind)

  end-line : (at : Pos) → (place_of_rest at rest tail).line ≡ (place_after (place_after at (take (opener_size kind) rest)) body).line
  end-line at =
      ap (λ (l : List ℕ). (place_after at l).line) (block-before at)
      ∙ ap (λ (p : Pos). p.line) (place_after-append at (front ++ body) (codes "*/"))
      ∙ ap (λ (p : Pos). p.line) (place_after-append at front body)
      ∙ ap (λ (l : List ℕ). (place_after (place_after at l) body).line) (sym take-opener)

  pub AreAtPlaces-block : (at : Pos) (pieces : List SourcePiece) → AreAtPlaces (place_of_rest at rest tail) pieces →
      AreAtPlaces at (block kind at rest tail ∷ pieces)
  AreAtPlaces-block at pieces places = (
    refl,
    ap (place_after at) take-opener,
    end-line at,
    subst (λ (l : List ℕ). AreAtPlaces (place_after at l) pieces) (block-before at) places,
  )

  pub AreOpened-block : (at : Pos) (pieces : List SourcePiece) → AreOpened options tail pieces → AreOpened options rest (block kind at rest tail ∷ pieces)
  AreOpened-block at pieces opened =
      let same = drop-behind (piece_text (block kind at rest tail)) tail rest (block-text at) in (
        opener,
        closed ∙ ap Some (sym same),
        subst (λ (l : List ℕ). AreOpened options l pieces) (sym same) opened,
      )

-- what is true of the pieces that are found behind others
record Behind (options : Options) (done : List SourcePiece) (at : Pos) (text : List ℕ) (pieces : List SourcePiece) : Type 0 where
  more : List SourcePiece
  pieces_are : pieces ≡ done ++ more
  text_is : source_text more ≡ text
  places : AreAtPlaces at more
  apart : AreApart more
  opened : AreOpened options text more

-- pieces, and no fault
abbrev all_pieces : List SourcePiece → Split
all_pieces pieces = Ok pieces

ok_value : (given pieces : List SourcePiece) → all_pieces given ≡ Ok pieces → pieces ≡ given
ok_value given pieces is = cc

regrouped : (a b c d : List SourcePiece) → ((a ++ b) ++ c) ++ d ≡ a ++ (b ++ (c ++ d))
regrouped a b c d = simp append_assoc

-- one step, where what is found behind the block is as said
module _ (options : Options) (steps : ℕ) (done : List SourcePiece) (at : Pos) (text : List ℕ) (pieces : List SourcePiece)
    (enough : length text ≤ steps)
    (later : (done : List SourcePiece) (at : Pos) (text : List ℕ) → length text < steps → pieces_from steps options done at text ≡ Ok pieces → Behind options done at text pieces) where
  abbrev rest : List ℕ
  rest = from_opener options text

  abbrev passed : List ℕ
  passed = before text rest

  rest-end : IsEnd text rest
  rest-end = from_first-end (λ rest. is_present (opener_at options rest)) text

  text-split : text ≡ passed ++ rest
  text-split = IsEnd-split text rest rest-end

  behind-nothing : opener_at options rest ≡ Absent → all_pieces (done ++ outside passed) ≡ Ok pieces → Behind options done at text pieces
  behind-nothing opener is =
      let none = from_first-holds (λ rest. is_present (opener_at options rest)) text (ap is_present opener) in
      let whole = text-split ∙ ap (λ (l : List ℕ). passed ++ l) none ∙ append-nil passed in record {
        more = outside passed;
        pieces_are = ok_value (done ++ outside passed) pieces is;
        text_is = outside-text passed ∙ sym whole;
        places = AreAtPlaces-last at passed;
        apart = AreApart-last passed;
        opened = AreOpened-last options text passed text-split;
      }

  behind-block : (kind : BlockKind) (end : Option (List ℕ)) → opener_at options rest ≡ Opens kind → after_block kind (drop (opener_size kind) rest) ≡ end →
      at_end (pieces_from steps options) (done ++ outside passed) kind (place_of_rest at text rest) rest end ≡ Ok pieces → Behind options done at text pieces
  behind-block kind None opener closed is = absurd (cc)
  behind-block kind (Some tail) opener closed is =
      let own = place_of_rest at text rest in
      let item = block kind own rest tail in
      let shorter = block-shorter options kind rest tail opener closed in
      let within = (IsEnd-drop_is text rest rest-end).within in
      let found = later ((done ++ outside passed) ++ item ∷ []) (place_of_rest own rest tail) tail (omega arith) is in record {
        more = outside passed ++ item ∷ found.more;
        pieces_are = found.pieces_are ∙ regrouped done (outside passed) (item ∷ []) found.more;
        text_is =
            outside-before passed (item ∷ found.more) ∙ ap (λ (l : List ℕ). passed ++ (piece_text item ++ l)) found.text_is
            ∙ ap (λ (l : List ℕ). passed ++ l) (sym (block-text options kind rest tail opener closed own)) ∙ sym text-split;
        places = AreAtPlaces-outside at passed (item ∷ found.more) (AreAtPlaces-block options kind rest tail opener closed own found.more found.places);
        apart = AreApart-outside passed kind own rest tail found.more found.apart;
        opened =
            AreOpened-outside options text passed (item ∷ found.more) text-split
            (AreOpened-block options kind rest tail opener closed own found.more found.opened);
      }

  behind-opener : (opener : Opener) → opener_at options rest ≡ opener →
      at_opener (pieces_from steps options) (done ++ outside passed) (place_of_rest at text rest) rest opener ≡ Ok pieces → Behind options done at text pieces
  behind-opener Absent opener is = behind-nothing opener is
  behind-opener Refused opener is = absurd (cc)
  behind-opener (Opens kind) opener is = behind-block kind (after_block kind (drop (opener_size kind) rest)) opener refl is

cut_from : (options : Options) (steps : ℕ) (done : List SourcePiece) (at : Pos) (text : List ℕ) (pieces : List SourcePiece) → length text < steps →
    pieces_from steps options done at text ≡ Ok pieces → Behind options done at text pieces
cut_from options zero done at text pieces enough is = absurd (omega arith)
cut_from options (suc steps) done at text pieces enough is =
    behind-opener options steps done at text pieces (omega arith)
    (λ done' at' text' enough' is'. cut_from options steps done' at' text' pieces enough' is')
    (opener_at options (from_opener options text)) refl is

-- a text in which no mark is found has none
pub from_first-nowhere : (test : List ℕ → Bool) → test [] ≡ false → (text : List ℕ) → from_first test text ≡ [] → (front tail : List ℕ) →
    text ≡ front ++ tail → test tail ≡ false
from_first-nowhere test never [] none [] tail is = subst (λ l. test l ≡ false) is never
from_first-nowhere test never [] none (letter ∷ front) tail is = absurd (cc)
from_first-nowhere test never (letter ∷ text) none front tail is =
    at (test (letter ∷ text)) refl (from_first-nowhere test never text) front is none
  where
    at : (b : Bool) → test (letter ∷ text) ≡ b →
        (from_first test text ≡ [] → (front tail : List ℕ) → text ≡ front ++ tail → test tail ≡ false) → (front : List ℕ) → letter ∷ text ≡ front ++ tail →
        cond b (letter ∷ text) (from_first test text) ≡ [] → test tail ≡ false
    at true found later front is none = absurd (cc)
    at false found later [] is none = subst (λ l. test l ≡ false) is found
    at false found later (other ∷ front) is none = later none front tail (cc)

-- where there is no place of a mark, there is no mark
pub record IsUnmarked (bytes : List ℕ) : Type 0 where
  pub no_mark : HasNoMark bytes
  pub completes_no_mark : begins_mark (47 ∷ bytes) ≡ false

pub unmarked : (start : Pos) (bytes : List ℕ) → mark_place start bytes ≡ None → IsUnmarked bytes
unmarked start bytes none = at (begins_mark (47 ∷ bytes)) (from_first begins_mark bytes) refl refl none
  where
    at : (b : Bool) (found : List ℕ) → begins_mark (47 ∷ bytes) ≡ b → from_first begins_mark bytes ≡ found →
        cond b (Some start) (place_if_any start bytes found) ≡ None → IsUnmarked bytes
    at true found completes is none = absurd (cc)
    at false [] completes is none = record { no_mark = from_first-nowhere begins_mark refl bytes is; completes_no_mark = completes }
    at false (letter ∷ found) completes is none = absurd (cc)

pub pieces_of-cut : (options : Options) (file : ℕ) (bytes : List ℕ) (pieces : List SourcePiece) → pieces_of options file bytes ≡ Ok pieces →
    AreCut (file_start file) bytes pieces
pieces_of-cut options file bytes pieces is = at (mark_place (file_start file) bytes) refl is
  where
    at : (mark : Option Pos) → mark_place (file_start file) bytes ≡ mark → unless_marked mark (pieces_without_marks options file bytes) ≡ Ok pieces →
        AreCut (file_start file) bytes pieces
    at (Some place) found is = absurd (cc)
    at None found is =
        let behind = cut_from options (suc (length bytes)) [] (file_start file) bytes pieces (omega arith) is in
        let none = unmarked (file_start file) bytes found in record {
          text = rw behind.pieces_are behind.text_is;
          at_places = rw behind.pieces_are behind.places;
          apart = rw behind.pieces_are behind.apart;
          no_mark = none.no_mark;
          completes_no_mark = none.completes_no_mark;
        }

pub pieces_of-opened : (options : Options) (file : ℕ) (bytes : List ℕ) (pieces : List SourcePiece) → pieces_of options file bytes ≡ Ok pieces →
    AreOpened options bytes pieces
pieces_of-opened options file bytes pieces is = at (mark_place (file_start file) bytes) is
  where
    at : (mark : Option Pos) → unless_marked mark (pieces_without_marks options file bytes) ≡ Ok pieces → AreOpened options bytes pieces
    at (Some place) is = absurd (cc)
    at None is =
        let behind = cut_from options (suc (length bytes)) [] (file_start file) bytes pieces (omega arith) is in rw behind.pieces_are behind.opened
