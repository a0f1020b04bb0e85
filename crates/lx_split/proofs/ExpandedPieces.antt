-- What is found in an expansion is sound.
use Rattle.std.proofs.Common.{◌≡◌, ℕ, zero, suc, ◌+◌, ◌<◌, ◌≤◌, Bool, true, false, cond, ◌&&◌, List, [], ◌∷◌, ◌++◌, length, codes, Option, Some, None, Ok, Err, MatchResult, refl, sym, ◌∙◌, ap, subst, arith, append_assoc, length-append}
use Rattle.std.specs.Prelude.{All, nat_lt}
use Rattle.std.proofs.lemmas.Bool.{ltb-false}
use Rattle.std.proofs.lemmas.List.Elements.{All-nil, All-cons, All-append}
use Rattle.lx_base.specs.declared.blocks.BlockKind.TheVariants.{Include, Leave}
use Rattle.lx_base.specs.declared.faults.Fault.{Fault}
use Rattle.lx_base.specs.declared.faults.Fault.TheVariants.{IncludeDepth, TooLong}
use Rattle.lx_base.specs.declared.places.Pos.{Pos}
use Rattle.lx_base.specs.declared.settings.Options.{Options}
use Rattle.lx_base.specs.Message.{IsPlaced}
use Rattle.lx_base.specs.Places.{file_start, place_after}
use Rattle.lx_files.specs.Held.{bytes_of}
use Rattle.lx_files.specs.declared.files.HeldFile.{HeldFile}
use Rattle.lx_split.specs.declared.includes.IncludeBlock.{IncludeBlock}
use Rattle.lx_split.specs.declared.pieces.SourcePiece.{SourcePiece}
use Rattle.lx_split.specs.declared.pieces.SourcePiece.TheVariants.{Outside, Block}
use Rattle.lx_split.specs.Cuts.{HasNoMark, IsFaultOf, IsOpenerFault, begins_outside, completed, faulty, marked, piece_text, refused, source_text, unclosed}
use Rattle.lx_split.specs.Expanded.{AreExpanded}
use Rattle.lx_split.specs.IncludeNames.{file_name_of, folder_of, names_for}
use Rattle.lx_split.specs.Includes.{Expansion, Met, behind, enter_block, expanded, expansion, fails, file_expansion, first_file, found_include, found_then, gives, go_on, if_named, include_expansion, include_of, leave_block, main_expansion, met, piece_then, pieces_expansion, pieces_then, with_file}
use Rattle.lx_split.specs.Marks.{begins_mark}
use Rattle.lx_split.specs.Pieces.{Split, pieces_of}
use Rattle.lx_split.proofs.Cutting.{pieces_of-cut}
use Rattle.lx_split.proofs.Faults.{pieces_of-fault}
use Rattle.lx_split.proofs.PlaceBounds.{place_after-file}
use Rattle.lx_split.proofs.MarkFreePieces.{AreMarkFree, AreMarkFree-append, AreMarkFree-more, AreMarkFree-sound, FitsBefore, IsMarkFree, IsMarkFree-more, pieces_of-fine}
use Rattle.lx_split.proofs.Straddles.{HasNone-cons, HasNone-nil, StopsAtSlash-mark}

abbrev IsNoInclude : SourcePiece → Type 0
IsNoInclude piece = include_of piece ≡ None

-- ---- what is found for one piece, for pieces and for a file

-- for a piece, before others
record HasPut (files : Met) (piece : SourcePiece) (later : Met) (found : List SourcePiece) : Type 0 where
  fine : (count : ℕ) (rest : List SourcePiece) → length later.names ≤ count → AreMarkFree count rest → FitsBefore piece rest →
      AreMarkFree count (found ++ rest)
  first : (rest : List SourcePiece) → begins_outside (found ++ rest) ≡ begins_outside (piece ∷ [])
  no_include : All IsNoInclude found
  few : length found + files.total ≤ length (piece_text piece) + later.total
  within : later.total ≤ 16777216
  more : length files.names ≤ length later.names

-- for pieces of a file
record HasPutAll (files : Met) (pieces : List SourcePiece) (later : Met) (found : List SourcePiece) : Type 0 where
  fine : AreMarkFree (length later.names) found
  first : begins_outside found ≡ begins_outside pieces
  no_include : All IsNoInclude found
  few : length found + files.total ≤ length (source_text pieces) + later.total
  within : later.total ≤ 16777216
  more : length files.names ≤ length later.names

-- for a file that is met
record HasPutFile (files : Met) (later : Met) (found : List SourcePiece) : Type 0 where
  fine : AreMarkFree (length later.names) found
  no_include : All IsNoInclude found
  few : length found + files.total ≤ later.total
  within : later.total ≤ 16777216
  more : length files.names < length later.names

-- it is found so, or the fault stands in one of the files
abbrev Puts : (files : Met) → SourcePiece → Expansion → Type 0
Puts files piece whole = MatchResult whole.found (HasPut files piece whole.met) (IsPlaced whole.met.names)

abbrev PutsAll : (files : Met) → List SourcePiece → Expansion → Type 0
PutsAll files pieces whole = MatchResult whole.found (HasPutAll files pieces whole.met) (IsPlaced whole.met.names)

abbrev PutsFile : (files : Met) → Expansion → Type 0
PutsFile files whole = MatchResult whole.found (HasPutFile files whole.met) (IsPlaced whole.met.names)

-- ---- pieces one behind another

module _ (files : Met) (piece : SourcePiece) (pieces : List SourcePiece) (fits : FitsBefore piece pieces) where
  HasPutAll-cons : (later last : Met) (found rest : List SourcePiece) → HasPut files piece later found → HasPutAll later pieces last rest →
      HasPutAll files (piece ∷ pieces) last (found ++ rest)
  HasPutAll-cons later last found rest one two = record {
    fine = one.fine (length last.names) rest two.more two.fine (ap (λ (b : Bool). begins_outside (piece ∷ []) && b) two.first ∙ fits);
    first = one.first rest ∙ first-cons piece;
    no_include = All-append IsNoInclude found rest one.no_include two.no_include;
    few =
        let count = length-append found rest in
        let size = length-append (piece_text piece) (source_text pieces) in
        let a = one.few in
        let b = two.few in omega arith;
    within = two.within;
    more = let a = one.more in let b = two.more in omega arith;
  }
    where
      first-cons : (piece : SourcePiece) → begins_outside (piece ∷ []) ≡ begins_outside (piece ∷ pieces)
      first-cons (Outside text) = refl
      first-cons (Block kind body at body_at end_line) = refl

  PutsAll-behind : (later : Met) (found : List SourcePiece) → HasPut files piece later found → (last : Met) (rest : Split) →
      MatchResult rest (HasPutAll later pieces last) (IsPlaced last.names) →
      MatchResult (pieces_then found rest) (HasPutAll files (piece ∷ pieces) last) (IsPlaced last.names)
  PutsAll-behind later found one last (Ok rest) two = HasPutAll-cons later last found rest one two
  PutsAll-behind later found one last (Err fault) two = two

  PutsAll-found_then : (later : Met) (found : Split) (next : Met → Expansion) →
      MatchResult found (HasPut files piece later) (IsPlaced later.names) →
      ((later : Met) → length files.names ≤ length later.names → later.total ≤ 16777216 → PutsAll later pieces (next later)) →
      PutsAll files (piece ∷ pieces) (found_then later found next)
  PutsAll-found_then later (Ok found) next one two =
      PutsAll-behind later found one (next later).met (next later).found (two later one.more one.within)
  PutsAll-found_then later (Err fault) next one two = one

-- a piece that is no include
Puts-itself : (files : Met) (piece : SourcePiece) → IsMarkFree (length files.names) piece → files.total ≤ 16777216 → include_of piece ≡ None →
    Puts files piece (gives files (piece ∷ []))
Puts-itself files piece fine within none = record {
  fine = λ count rest le behind fits. (IsMarkFree-more (length files.names) count piece le fine, fits, behind);
  first = λ rest. first-of piece rest;
  no_include = All-cons IsNoInclude piece [] none (All-nil IsNoInclude);
  few = let some = some-text piece fine in omega arith;
  within = within;
  more = omega arith;
}
  where
    first-of : (piece : SourcePiece) (rest : List SourcePiece) → begins_outside (piece ∷ rest) ≡ begins_outside (piece ∷ [])
    first-of (Outside text) rest = refl
    first-of (Block kind body at body_at end_line) rest = refl

    some-text : (piece : SourcePiece) → IsMarkFree (length files.names) piece → 1 ≤ length (piece_text piece)
    some-text (Outside []) fine = absurd (fine.0 refl)
    some-text (Outside (letter ∷ text)) fine = omega arith
    some-text (Block kind body at body_at end_line) fine = omega arith

-- an include of a file, as a piece
abbrev include_piece : IncludeBlock → (body_at : Pos) → SourcePiece
include_piece include body_at = Block Include include.body include.at body_at include.end_line

-- what an expander of includes gives
abbrev PutsIncludes : (expand_include : Met → IncludeBlock → Expansion) → Type 0
PutsIncludes expand_include =
    (files : Met) (include : IncludeBlock) (body_at : Pos) → IsMarkFree (length files.names) (include_piece include body_at) → files.total ≤ 16777216 →
    Puts files (include_piece include body_at) (expand_include files include)

module _ (expand_include : Met → IncludeBlock → Expansion) (puts : PutsIncludes expand_include) where
  Puts-piece_then : (files : Met) (piece : SourcePiece) → IsMarkFree (length files.names) piece → files.total ≤ 16777216 →
      Puts files piece (piece_then expand_include files piece (include_of piece))
  Puts-piece_then files (Outside text) fine within = Puts-itself files (Outside text) fine within refl
  Puts-piece_then files (Block Include body at body_at end_line) fine within =
      puts files (record { body = body; at = at; end_line = end_line }) body_at fine within
  Puts-piece_then files (Block kind body at body_at end_line) fine within =
      Puts-itself files (Block kind body at body_at end_line) fine within refl

  PutsAll-expanded : (files : Met) (pieces : List SourcePiece) → AreMarkFree (length files.names) pieces → files.total ≤ 16777216 →
      PutsAll files pieces (expanded expand_include files pieces)
  PutsAll-expanded files [] fine within = record {
    fine = tt;
    first = refl;
    no_include = All-nil IsNoInclude;
    few = omega arith;
    within = within;
    more = omega arith;
  }
  PutsAll-expanded files (piece ∷ pieces) fine within =
      let one = piece_then expand_include files piece (include_of piece) in
      PutsAll-found_then files piece pieces fine.1 one.met one.found (λ later. expanded expand_include later pieces)
      (Puts-piece_then files piece fine.0 within)
      (λ later le within. PutsAll-expanded later pieces (AreMarkFree-more (length files.names) (length later.names) pieces le fine.2) within)

-- ---- a file

-- the fault of a file stands in it
IsPlaced-opener : (names : List (List ℕ)) (options : Options) (at : Pos) (text : List ℕ) (fault : Fault) → at.file < length names →
    IsOpenerFault options at text fault → IsPlaced names fault
IsPlaced-opener names options at text fault in_file (refused opener is) = rw is in_file
IsPlaced-opener names options at text fault in_file (unclosed kind opener closed is) = rw is in_file

IsPlaced-behind : (names : List (List ℕ)) (file : ℕ) (text : List ℕ) → file < length names →
    (place_after (file_start file) text).file < length names
IsPlaced-behind names file text in_file = let same = place_after-file (file_start file) text in omega arith

IsPlaced-fault : (names : List (List ℕ)) (options : Options) (file : ℕ) (bytes : List ℕ) (fault : Fault) → file < length names →
    IsFaultOf options (file_start file) bytes fault → IsPlaced names fault
IsPlaced-fault names options file bytes fault in_file (completed completes is) = rw is in_file
IsPlaced-fault names options file bytes fault in_file (marked completes mark) =
    rw mark.is_fault (IsPlaced-behind names file mark.front in_file)
IsPlaced-fault names options file bytes fault in_file (faulty completes unmarked behind) =
    IsPlaced-opener names options (place_after (file_start file) (source_text behind.done)) behind.rest fault
    (IsPlaced-behind names file (source_text behind.done) in_file) behind.is_fault

-- what an expander of pieces gives
abbrev PutsPieces : (expand : Met → List SourcePiece → Expansion) → Type 0
PutsPieces expand =
    (files : Met) (pieces : List SourcePiece) → AreMarkFree (length files.names) pieces → files.total ≤ 16777216 → PutsAll files pieces (expand files pieces)

HasPutFile-all : (files : Met) (file : HeldFile) (pieces : List SourcePiece) (last : Met) (found : Split) →
    length (source_text pieces) ≡ length file.bytes → MatchResult found (HasPutAll (with_file files file) pieces last) (IsPlaced last.names) →
    MatchResult found (HasPutFile files last) (IsPlaced last.names)
HasPutFile-all files file pieces last (Ok found) size all = record {
  fine = all.fine;
  no_include = all.no_include;
  few = let few = all.few in omega arith;
  within = all.within;
  more = let more = all.more in let one = length-append files.names (file.name ∷ []) in omega arith;
}
HasPutFile-all files file pieces last (Err fault) size all = all

module _ (expand : (folder : List ℕ) → Met → List SourcePiece → Expansion) (puts : (folder : List ℕ) → PutsPieces (expand folder))
    (options : Options) (at : Pos) (files : Met) (file : HeldFile) (at_file : at.file < length files.names + 1) where
  abbrev named : ℕ
  named = length files.names

  more_names : length (files.names ++ file.name ∷ []) ≡ named + 1
  more_names = length-append files.names (file.name ∷ [])

  PutsFile-split : files.total + length file.bytes ≤ 16777216 → (split : Split) → pieces_of options named file.bytes ≡ split →
      PutsFile files (go_on (expand (folder_of file.name)) (with_file files file) split)
  PutsFile-split within (Ok pieces) is =
      let whole = expand (folder_of file.name) (with_file files file) pieces in
      HasPutFile-all files file pieces whole.met whole.found (ap length (pieces_of-cut options named file.bytes pieces is).text)
      (puts (folder_of file.name) (with_file files file) pieces
      (let one = more_names in
      pieces_of-fine (length (files.names ++ file.name ∷ [])) options named file.bytes pieces is (omega arith) (omega arith)) within)
  PutsFile-split within (Err fault) is =
      IsPlaced-fault (files.names ++ file.name ∷ []) options named file.bytes fault (let one = more_names in omega arith)
      (pieces_of-fault options named file.bytes fault is)

  PutsFile-file_expansion : PutsFile files (file_expansion expand options at files file)
  PutsFile-file_expansion = by (nat_lt 16777216 (files.total + length file.bytes)) refl
    where
      by : (long : Bool) → nat_lt 16777216 (files.total + length file.bytes) ≡ long →
          PutsFile files (go_on (expand (folder_of file.name)) (with_file files file)
          (cond long (Err (TooLong at (files.total + length file.bytes))) (pieces_of options named file.bytes)))
      by true is = let one = more_names in omega arith
      by false is =
          PutsFile-split (ltb-false 16777216 (files.total + length file.bytes) is) (pieces_of options named file.bytes) refl

-- ---- an include

-- no mark stands in the text of a block around a file
unmarked-empty : HasNoMark (codes "/*!*/")
unmarked-empty =
    HasNone-cons begins_mark 47 (codes "*!*/") refl (HasNone-cons begins_mark 42 (codes "!*/") refl
    (HasNone-cons begins_mark 33 (codes "*/") refl (HasNone-cons begins_mark 42 (codes "/") refl
    (HasNone-cons begins_mark 47 [] refl (HasNone-nil begins_mark StopsAtSlash-mark)))))

module _ (files : Met) (include : IncludeBlock) (body_at : Pos) (fine : IsMarkFree (length files.names) (include_piece include body_at)) where
  abbrev piece : SourcePiece
  piece = include_piece include body_at

  at_file : include.at.file < length files.names
  at_file = fine.0.opener.in_file

  -- the blocks around the pieces of its file
  fine-enter : (count : ℕ) → length files.names < count → IsMarkFree count (enter_block (length files.names))
  fine-enter count less = (
    record {
      size = omega arith;
      opener = record { in_file = less; line = omega arith; col = omega arith };
      start = record { in_file = less; line = omega arith; col = omega arith };
      same_file = refl;
      last = omega arith;
    },
    unmarked-empty,
  )

  fine-leave : (count : ℕ) → length files.names ≤ count → IsMarkFree count (leave_block include)
  fine-leave count le =
      let opener = fine.0.opener in
      let in_file : include.at.file < count = let less = at_file in omega arith in (
        record {
          size = omega arith;
          opener = record { in_file = in_file; line = opener.line; col = opener.col };
          start = record { in_file = in_file; line = opener.line; col = opener.col };
          same_file = refl;
          last = fine.0.last;
        },
        unmarked-empty,
      )

  abbrev around : List SourcePiece → List SourcePiece
  around found = enter_block (length files.names) ∷ found ++ leave_block include ∷ []

  HasPut-around : (last : Met) (found : List SourcePiece) → HasPutFile files last found → HasPut files piece last (around found)
  HasPut-around last found put = record {
    fine = λ count rest le behind fits.
        let more = put.more in
        let same = append_assoc found (leave_block include ∷ []) rest in
        let inner : AreMarkFree count (found ++ leave_block include ∷ rest) =
        AreMarkFree-append count found Leave [] include.at include.at include.end_line rest
        (AreMarkFree-more (length last.names) count found le put.fine)
        (fine-leave count (omega arith), refl, behind) in
        (fine-enter count (omega arith), refl, subst (AreMarkFree count) (sym same) inner);
    first = λ rest. refl;
    no_include =
        All-cons IsNoInclude (enter_block (length files.names)) (found ++ leave_block include ∷ []) refl
        (All-append IsNoInclude found (leave_block include ∷ []) put.no_include
        (All-cons IsNoInclude (leave_block include) [] refl (All-nil IsNoInclude)));
    few = let few = put.few in let size = length-append found (leave_block include ∷ []) in omega arith;
    within = put.within;
    more = let more = put.more in omega arith;
  }

  Puts-between : (inner : Met) (found : Split) → MatchResult found (HasPutFile files inner) (IsPlaced inner.names) →
      Puts files piece (behind (enter_block (length files.names) ∷ []) (found_then inner found (λ later. gives later (leave_block include ∷ []))))
  Puts-between inner (Ok found) put = HasPut-around inner found put
  Puts-between inner (Err fault) put = put

  module _ (within : files.total ≤ 16777216) (options : Options) (seen : List HeldFile)
      (expand : (folder : List ℕ) → Met → List SourcePiece → Expansion) (puts : (folder : List ℕ) → PutsPieces (expand folder)) where
    Puts-found_include : (name : List ℕ) (file : Option HeldFile) →
        Puts files piece (found_include options seen expand files include name file)
    Puts-found_include name None = at_file
    Puts-found_include name (Some file) =
        let inner = file_expansion expand options include.at files file in
        Puts-between inner.met inner.found
        (PutsFile-file_expansion expand puts options include.at files file (let less = at_file in omega arith))

  Puts-if_named : (next : List ℕ → Expansion) → ((name : List ℕ) → Puts files piece (next name)) → (name : Option (List ℕ)) →
      Puts files piece (if_named files include next name)
  Puts-if_named next puts None = at_file
  Puts-if_named next puts (Some name) = puts name

module _ (options : Options) (seen : List HeldFile) where
  Puts-include_expansion : (left : ℕ) (folder : List ℕ) → PutsIncludes (include_expansion options seen left folder)
  unfolding include_expansion
  Puts-include_expansion zero folder files include body_at fine within =
      Puts-if_named files include body_at fine (λ name. fails files (IncludeDepth include.at 33)) (λ name. fine.0.opener.in_file)
      (file_name_of include.body)
  Puts-include_expansion (suc left) folder files include body_at fine within =
      let inner : (folder : List ℕ) → Met → List SourcePiece → Expansion = λ folder. expanded (include_expansion options seen left folder) in
      Puts-if_named files include body_at fine
      (λ name. found_include options seen inner files include name (first_file seen (names_for options folder name)))
      (λ name.
      Puts-found_include files include body_at fine within options seen inner
      (λ folder. PutsAll-expanded (include_expansion options seen left folder) (Puts-include_expansion left folder))
      name (first_file seen (names_for options folder name)))
      (file_name_of include.body)

  PutsFile-main : (main : List ℕ) (bytes : Option (List ℕ)) → PutsFile (met [] 0) (main_expansion options seen main bytes)
  PutsFile-main main None = omega arith
  PutsFile-main main (Some bytes) =
      PutsFile-file_expansion (pieces_expansion options seen 32)
      (λ folder. PutsAll-expanded (include_expansion options seen 32 folder) (Puts-include_expansion 32 folder))
      options (file_start 0) (met [] 0) (record { name = main; bytes = bytes }) (omega arith)

  module _ (main : List ℕ) where
    sound-found : (last : Met) (found : Split) → MatchResult found (HasPutFile (met [] 0) last) (IsPlaced last.names) →
        (pieces : List SourcePiece) → found ≡ Ok pieces → AreExpanded (length last.names) pieces
    sound-found last (Ok found) put pieces is =
        let few = put.few in
        let within = put.within in
        let same : found ≡ pieces = cc in
        subst (AreExpanded (length last.names)) same (AreMarkFree-sound (length last.names) found put.fine put.no_include (omega arith))
    sound-found last (Err fault) put pieces is = absurd (cc)

    pub expansion-sound : (pieces : List SourcePiece) → (expansion options seen main).found ≡ Ok pieces →
        AreExpanded (length (expansion options seen main).met.names) pieces
    expansion-sound pieces is =
        sound-found (expansion options seen main).met (expansion options seen main).found (PutsFile-main main (bytes_of seen main)) pieces is

    placed-found : (last : Met) (found : Split) → MatchResult found (HasPutFile (met [] 0) last) (IsPlaced last.names) → (fault : Fault) →
        found ≡ Err fault → IsPlaced last.names fault
    placed-found last (Ok found) put fault is = absurd (cc)
    placed-found last (Err other) put fault is = let same : other ≡ fault = cc in subst (IsPlaced last.names) same put

    pub expansion-placed : (fault : Fault) → (expansion options seen main).found ≡ Err fault →
        IsPlaced (expansion options seen main).met.names fault
    expansion-placed fault is =
        placed-found (expansion options seen main).met (expansion options seen main).found (PutsFile-main main (bytes_of seen main)) fault is
