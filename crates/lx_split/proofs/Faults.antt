-- The fault of a source stands in it.
use Rattle.std.proofs.Common.{◌≡◌, ℕ, zero, suc, ◌-◌, ◌<◌, ◌≤◌, Bool, true, false, cond, List, [], ◌∷◌, ◌++◌, length, drop, Option, Some, None, Err, refl, sym, ◌∙◌, ap, subst, arith, append_assoc}
use Rattle.std.proofs.lemmas.List.{length-take}
use Rattle.lx_base.specs.declared.blocks.BlockKind.{BlockKind}
use Rattle.lx_base.specs.declared.places.Pos.{Pos}
use Rattle.lx_base.specs.declared.settings.Options.{Options}
use Rattle.lx_base.specs.declared.faults.Fault.{Fault}
use Rattle.lx_base.specs.declared.faults.Fault.TheVariants.{Directive, MarkInSource, Unclosed}
use Rattle.lx_base.specs.Places.{place_after, file_start}
use Rattle.lx_token.specs.Tokens.{place_of_rest}
use Rattle.lx_token.proofs.Ends.{IsEnd}
use Rattle.lx_token.proofs.Walk.{IsEnd-drop_is, place_after-append}
use Rattle.lx_split.specs.declared.openers.Opener.{Opener}
use Rattle.lx_split.specs.declared.openers.Opener.TheVariants.{Absent, Refused, Opens}
use Rattle.lx_split.specs.declared.pieces.SourcePiece.{SourcePiece}
use Rattle.lx_split.specs.Searches.{from_first}
use Rattle.lx_split.specs.Marks.{begins_mark, mark_place, place_if_any}
use Rattle.lx_split.specs.Openers.{from_opener, is_present, opener_at}
use Rattle.lx_split.specs.Bodies.{after_block}
use Rattle.lx_split.specs.Pieces.{Split, at_end, at_opener, before, block, opener_size, outside, pieces_from, pieces_of, pieces_without_marks, unless_marked}
use Rattle.lx_split.specs.Cuts.{IsFaultOf, IsFaultBehind, IsOpenerFault, completed, faulty, marked, refused, unclosed, piece_text, source_text}
use Rattle.lx_split.proofs.BlockEnds.{IsEnd-split}
use Rattle.lx_split.proofs.Needles.{from_first-end}
use Rattle.lx_split.proofs.Openings.{AreOpened-last, AreOpened-outside, from_first-before}
use Rattle.lx_split.proofs.Cutting.{AreAtPlaces-block, AreAtPlaces-last, AreAtPlaces-outside, AreOpened-block, block-before, block-shorter, block-text, outside-before, outside-text, unmarked}

-- a fault, and no pieces
abbrev only_fault : Fault → Split
only_fault fault = Err fault

fault_value : (given fault : Fault) → only_fault given ≡ Err fault → fault ≡ given
fault_value given fault is = cc

regrouped : (a b c d : List ℕ) → a ++ (b ++ (c ++ d)) ≡ (a ++ (b ++ c)) ++ d
regrouped a b c d = simp append_assoc

-- one step, where the fault behind the block is as said
module _ (options : Options) (steps : ℕ) (done : List SourcePiece) (at : Pos) (text : List ℕ) (fault : Fault) (enough : length text ≤ steps)
    (later : (done : List SourcePiece) (at : Pos) (text : List ℕ) → length text < steps → pieces_from steps options done at text ≡ Err fault → IsFaultBehind options at text fault) where
  abbrev rest : List ℕ
  rest = from_opener options text

  abbrev passed : List ℕ
  passed = before text rest

  rest-end : IsEnd text rest
  rest-end = from_first-end (λ rest. is_present (opener_at options rest)) text

  -- the fault of the next opener
  here : IsOpenerFault options (place_of_rest at text rest) rest fault → IsFaultBehind options at text fault
  here is_fault = record {
    done = outside passed;
    rest = rest;
    text = rw (outside-text passed) (IsEnd-split text rest rest-end);
    at_places = AreAtPlaces-last at passed;
    opened = AreOpened-last options text passed (IsEnd-split text rest rest-end);
    is_fault = rw (outside-text passed) is_fault;
  }

  -- a fault behind the block of the next opener
  behind : (kind : BlockKind) (tail : List ℕ) → opener_at options rest ≡ Opens kind → after_block kind (drop (opener_size kind) rest) ≡ Some tail →
      IsFaultBehind options (place_of_rest (place_of_rest at text rest) rest tail) tail fault → IsFaultBehind options at text fault
  behind kind tail opener closed found =
      let own = place_of_rest at text rest in
      let item = block kind own rest tail in
      let bytes = outside-before passed (item ∷ found.done) in
      let place =
      ap (place_after at) bytes ∙ place_after-append at passed (piece_text item ++ source_text found.done)
      ∙ place_after-append own (piece_text item) (source_text found.done)
      ∙ ap (λ (l : List ℕ). place_after (place_after own l) (source_text found.done)) (sym (block-before options kind rest tail opener closed own)) in
      let whole =
      IsEnd-split text rest rest-end ∙ ap (λ (l : List ℕ). passed ++ l) (block-text options kind rest tail opener closed own)
      ∙ ap (λ (l : List ℕ). passed ++ (piece_text item ++ l)) found.text in record {
        done = outside passed ++ item ∷ found.done;
        rest = found.rest;
        text = rw bytes (whole ∙ regrouped passed (piece_text item) (source_text found.done) found.rest);
        at_places = AreAtPlaces-outside at passed (item ∷ found.done) (AreAtPlaces-block options kind rest tail opener closed own found.done found.at_places);
        opened =
            AreOpened-outside options text passed (item ∷ found.done) (IsEnd-split text rest rest-end)
            (AreOpened-block options kind rest tail opener closed own found.done found.opened);
        is_fault = subst (λ (p : Pos). IsOpenerFault options p found.rest fault) (sym place) found.is_fault;
      }

  at_block : (kind : BlockKind) (end : Option (List ℕ)) → opener_at options rest ≡ Opens kind → after_block kind (drop (opener_size kind) rest) ≡ end →
      at_end (pieces_from steps options) (done ++ outside passed) kind (place_of_rest at text rest) rest end ≡ Err fault → IsFaultBehind options at text fault
  at_block kind None opener closed is =
      here (unclosed kind opener closed (fault_value (Unclosed (place_of_rest at text rest)) fault is))
  at_block kind (Some tail) opener closed is =
      let own = place_of_rest at text rest in
      let shorter = block-shorter options kind rest tail opener closed in
      let within = (IsEnd-drop_is text rest rest-end).within in
      behind kind tail opener closed
      (later ((done ++ outside passed) ++ block kind own rest tail ∷ []) (place_of_rest own rest tail) tail (omega arith) is)

  at_next : (opener : Opener) → opener_at options rest ≡ opener →
      at_opener (pieces_from steps options) (done ++ outside passed) (place_of_rest at text rest) rest opener ≡ Err fault → IsFaultBehind options at text fault
  at_next Absent opener is = absurd (cc)
  at_next Refused opener is = here (refused opener (fault_value (Directive (place_of_rest at text rest)) fault is))
  at_next (Opens kind) opener is = at_block kind (after_block kind (drop (opener_size kind) rest)) opener refl is

fault_from : (options : Options) (steps : ℕ) (done : List SourcePiece) (at : Pos) (text : List ℕ) (fault : Fault) → length text < steps →
    pieces_from steps options done at text ≡ Err fault → IsFaultBehind options at text fault
fault_from options zero done at text fault enough is = absurd (omega arith)
fault_from options (suc steps) done at text fault enough is =
    at_next options steps done at text fault (omega arith)
    (λ done' at' text' enough' is'. fault_from options steps done' at' text' fault enough' is')
    (opener_at options (from_opener options text)) refl is

-- a search ends where the test holds, and it holds nowhere before
from_first-test : (test : List ℕ → Bool) (text : List ℕ) (letter : ℕ) (found : List ℕ) → from_first test text ≡ letter ∷ found → test (letter ∷ found) ≡ true
from_first-test test [] letter found is = absurd (cc)
from_first-test test (other ∷ text) letter found is = at (test (other ∷ text)) refl (from_first-test test text letter found) is
  where
    at : (b : Bool) → test (other ∷ text) ≡ b → (from_first test text ≡ letter ∷ found → test (letter ∷ found) ≡ true) →
        cond b (other ∷ text) (from_first test text) ≡ letter ∷ found → test (letter ∷ found) ≡ true
    at true holds later is = subst (λ l. test l ≡ true) is holds
    at false holds later is = later is

place_value : (given place : Pos) → Some given ≡ Some place → place ≡ given
place_value given place is = cc

marked-at : (options : Options) (start : Pos) (bytes : List ℕ) (place : Pos) → mark_place start bytes ≡ Some place →
    IsFaultOf options start bytes (MarkInSource place)
marked-at options start bytes place is =
    at (begins_mark (47 ∷ bytes)) (from_first begins_mark bytes) refl refl is
  where
    at : (b : Bool) (found : List ℕ) → begins_mark (47 ∷ bytes) ≡ b → from_first begins_mark bytes ≡ found →
        cond b (Some start) (place_if_any start bytes found) ≡ Some place → IsFaultOf options start bytes (MarkInSource place)
    at true found completes search is = completed completes (ap MarkInSource (place_value start place is))
    at false [] completes search is = absurd (cc)
    at false (letter ∷ found) completes search is =
        let mark = letter ∷ found in
        let end = subst (λ l. IsEnd bytes l) search (from_first-end begins_mark bytes) in
        let size = length-take (length bytes - length mark) bytes in
        marked completes (record {
          front = before bytes mark;
          tail = mark;
          text = IsEnd-split bytes mark end;
          mark = from_first-test begins_mark bytes letter found search;
          first = λ inner rest split less.
              from_first-before begins_mark bytes inner rest split (omega (arith, ap length search));
          is_fault = ap MarkInSource (place_value (place_of_rest start bytes mark) place is);
        })

pub pieces_of-fault : (options : Options) (file : ℕ) (bytes : List ℕ) (fault : Fault) → pieces_of options file bytes ≡ Err fault →
    IsFaultOf options (file_start file) bytes fault
pieces_of-fault options file bytes fault is = at (mark_place (file_start file) bytes) refl is
  where
    at : (mark : Option Pos) → mark_place (file_start file) bytes ≡ mark → unless_marked mark (pieces_without_marks options file bytes) ≡ Err fault →
        IsFaultOf options (file_start file) bytes fault
    at (Some place) found is =
        subst (λ (f : Fault). IsFaultOf options (file_start file) bytes f) (sym (fault_value (MarkInSource place) fault is))
        (marked-at options (file_start file) bytes place found)
    at None found is =
        let none = unmarked (file_start file) bytes found in
        faulty none.completes_no_mark none.no_mark
        (fault_from options (suc (length bytes)) [] (file_start file) bytes fault (omega arith) is)
