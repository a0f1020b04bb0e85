-- What is still to be expanded, as files are walked through.
use Rattle.std.proofs.Common.{◌≡◌, ℕ, suc, ◌+◌, ◌-◌, ◌<◌, ◌≤◌, List, [], ◌∷◌, ◌++◌, reverse, length, Option, Some, None, Ok, Err, refl, sym, ◌∙◌, ap, arith, length-append}
use Rattle.std.specs.Prelude.{option_to_list}
use Rattle.std.proofs.lemmas.List.{reverse-append, length-reverse}
use Rattle.lx_base.specs.declared.faults.Fault.{Fault}
use Rattle.lx_base.specs.declared.faults.Fault.TheVariants.{IncludeDepth, NoFile, Syntax}
use Rattle.lx_base.specs.declared.faults.Stop.{Stop}
use Rattle.lx_base.specs.declared.faults.Stop.TheVariants as stops
use Rattle.lx_base.specs.Places.{file_start}
use Rattle.lx_base.specs.declared.settings.Options.{Options}
use Rattle.lx_files.specs.Held.{bytes_of}
use Rattle.lx_files.specs.declared.files.HeldFile.{HeldFile}
use Rattle.lx_split.specs.declared.includes.IncludeBlock.{IncludeBlock}
use Rattle.lx_split.specs.declared.pieces.SourcePiece.{SourcePiece}
use Rattle.lx_split.specs.declared.walk.OpenFile.{OpenFile}
use Rattle.lx_split.specs.declared.walk.Walk.{Walk}
use Rattle.lx_split.specs.IncludeNames.{file_name_of, folder_of, names_for}
use Rattle.lx_split.specs.Includes.{Expansion, Met, and_then, behind, enter_block, expansion, fails, first_file, gives, include_expansion, include_of, leave_block, met, piece_then, pieces_expansion, pieces_within, with_file}
use Rattle.lx_split.specs.Pieces.{StopsWith}
use Rattle.lx_split.specs.Walks.{Advances, Enters, IsNewWalk, Starts, StopsWhole, Takes, from_include, open_files, remaining, waiting, whole_from, whole_of}
use Rattle.lx_split.proofs.Expansions.{and_then-and_then, and_then-behind, and_then-nothing, behind-append, behind-nil, fails-through, include_expansion-deep, include_expansion-faulty, include_expansion-none, include_expansion-pieces, include_expansion-unnamed}

-- another file, with these pieces left
pub record IsRestOf (file file' : OpenFile) (rest : List SourcePiece) : Type 0 where
  pub waits : file'.rest.items ≡ rest
  pub folder : file'.folder ≡ file.folder
  pub leaves : file'.leave ≡ file.leave

module _ (options : Options) (seen : List HeldFile) (file : OpenFile) (outer : List OpenFile) (files : Met) where
  abbrev left : ℕ
  left = 32 - length outer

  -- what stands for pieces of the file, and then what is behind it
  abbrev rest_of : OpenFile → List SourcePiece → Met → Expansion
  rest_of file pieces files =
      and_then (pieces_expansion options seen left file.folder files pieces) (λ later. behind (option_to_list file.leave) (remaining options seen outer later))

  -- at the end of a file
  pub remaining-end : file.rest.items ≡ [] → remaining options seen (file ∷ outer) files ≡ behind (option_to_list file.leave) (remaining options seen outer files)
  remaining-end none =
      ap (λ (l : List SourcePiece). rest_of file l files) none ∙ behind-nil (behind (option_to_list file.leave) (remaining options seen outer files))

  module _ (file' : OpenFile) (piece : SourcePiece) (rest : List SourcePiece) (items : file.rest.items ≡ piece ∷ rest) (is_rest : IsRestOf file file' rest) where
    -- the same file with these pieces
    same_rest : (files : Met) → rest_of file rest files ≡ remaining options seen (file' ∷ outer) files
    same_rest files = sym (rw (is_rest.waits, is_rest.folder, is_rest.leaves))

    -- at a piece that is no include
    pub remaining-piece : include_of piece ≡ None → remaining options seen (file ∷ outer) files ≡ behind (piece ∷ []) (remaining options seen (file' ∷ outer) files)
    remaining-piece none =
        ap (λ (l : List SourcePiece). rest_of file l files) items
        ∙ ap (λ (o : Option IncludeBlock). and_then (and_then (piece_then (include_expansion options seen left file.folder) files piece o) (λ later. pieces_expansion options seen left file.folder later rest)) (λ later. behind (option_to_list file.leave) (remaining options seen outer later))) none
        ∙ and_then-behind (piece ∷ []) (pieces_expansion options seen left file.folder files rest) (λ later. behind (option_to_list file.leave) (remaining options seen outer later))
        ∙ ap (behind (piece ∷ [])) (same_rest files)

    -- what stands for an include, and then for pieces of its file
    abbrev behind_include : IncludeBlock → (folder : List ℕ) → Option SourcePiece → List SourcePiece → Expansion
    behind_include include folder leave pieces =
        and_then (include_expansion options seen left folder files include)
        (λ later. and_then (pieces_expansion options seen left folder later pieces) (λ last. behind (option_to_list leave) (remaining options seen outer last)))

    -- at an include
    pub remaining-include : (include : IncludeBlock) → include_of piece ≡ Some include →
        remaining options seen (file ∷ outer) files ≡ from_include options seen (file' ∷ outer) files include
    remaining-include include is =
        ap (λ (l : List SourcePiece). rest_of file l files) items
        ∙ ap (λ (o : Option IncludeBlock). and_then (and_then (piece_then (include_expansion options seen left file.folder) files piece o) (λ later. pieces_expansion options seen left file.folder later rest)) (λ later. behind (option_to_list file.leave) (remaining options seen outer later))) is
        ∙ and_then-and_then (include_expansion options seen left file.folder files include) (λ later. pieces_expansion options seen left file.folder later rest) (λ later. behind (option_to_list file.leave) (remaining options seen outer later))
        ∙ sym (ap (λ (l : List SourcePiece). behind_include include file'.folder file'.leave l) is_rest.waits
        ∙ ap (λ (o : Option SourcePiece). behind_include include file'.folder o rest) is_rest.leaves
        ∙ ap (λ (l : List ℕ). behind_include include l file.leave rest) is_rest.folder)

-- pieces were taken
pub record WalksOn (before after : Walk) : Type 0 where
  pub whole : (options : Options) (seen : List HeldFile) (names : List (List ℕ)) → whole_of options seen names before ≡ whole_of options seen names after
  pub total : after.total ≡ before.total
  pub waits : waiting (open_files after) ≤ waiting (open_files before)
  pub depth : length after.stack.items ≤ length before.stack.items

pub WalksOn-trans : (first second third : Walk) → WalksOn first second → WalksOn second third → WalksOn first third
WalksOn-trans first second third one two = record {
  whole = λ options seen names. one.whole options seen names ∙ two.whole options seen names;
  total = two.total ∙ one.total;
  waits = let a = one.waits in let b = two.waits in omega arith;
  depth = let a = one.depth in let b = two.depth in omega arith;
}

-- the innermost file is the last that was opened
pub open_files-last : (walk : Walk) (front : List OpenFile) (file : OpenFile) → walk.stack.items ≡ front ++ file ∷ [] → open_files walk ≡ file ∷ reverse front
open_files-last walk front file is = ap (λ (l : List OpenFile). reverse l) is ∙ reverse-append front (file ∷ [])

module _ (before after : Walk) (front : List OpenFile) (file : OpenFile) (top : before.stack.items ≡ front ++ file ∷ []) (total : after.total ≡ before.total) where
  -- the end of the innermost file
  pub WalksOn-end : file.rest.items ≡ [] → after.stack.items ≡ front → after.pieces ≡ before.pieces ++ option_to_list file.leave → WalksOn before after
  WalksOn-end none stack pieces =
      let opened = open_files-last before front file top in
      let opened' : open_files after ≡ reverse front = ap (λ (l : List OpenFile). reverse l) stack in
      let waits = ap waiting opened in
      let waits' = ap waiting opened' in
      let size = ap length top ∙ length-append front (file ∷ []) in
      let size' = ap length stack in
      let no_rest = ap length none in record {
        whole = λ options seen names.
            let files = met names before.total in
            ap (λ (l : List OpenFile). behind before.pieces (remaining options seen l files)) opened
            ∙ ap (behind before.pieces) (remaining-end options seen file (reverse front) files none)
            ∙ behind-append before.pieces (option_to_list file.leave) (remaining options seen (reverse front) files)
            ∙ sym (rw (pieces, opened', total));
        total = total;
        waits = omega arith;
        depth = omega arith;
      }

  module _ (file' : OpenFile) (piece : SourcePiece) (rest : List SourcePiece) (items : file.rest.items ≡ piece ∷ rest) (is_rest : IsRestOf file file' rest)
      (stack : after.stack.items ≡ front ++ file' ∷ []) where
    abbrev fewer : Type 0
    fewer = (waiting (open_files after) + 1 ≡ waiting (open_files before)) × (length after.stack.items ≡ length before.stack.items) × (0 < length after.stack.items)

    is_fewer : fewer
    is_fewer =
        let waits = ap waiting (open_files-last before front file top) in
        let waits' = ap waiting (open_files-last after front file' stack) in
        let count = ap length items in
        let count' = ap length is_rest.waits in
        let size = ap length top ∙ length-append front (file ∷ []) in
        let size' = ap length stack ∙ length-append front (file' ∷ []) in
        (omega arith, omega arith, omega arith)

    -- a piece that is no include
    pub WalksOn-piece : include_of piece ≡ None → after.pieces ≡ before.pieces ++ piece ∷ [] → WalksOn before after
    WalksOn-piece none pieces = record {
      whole = λ options seen names.
          let files = met names before.total in
          ap (λ (l : List OpenFile). behind before.pieces (remaining options seen l files)) (open_files-last before front file top)
          ∙ ap (behind before.pieces) (remaining-piece options seen file (reverse front) files file' piece rest items is_rest none)
          ∙ behind-append before.pieces (piece ∷ []) (remaining options seen (file' ∷ reverse front) files)
          ∙ sym (rw (pieces, open_files-last after front file' stack, total));
      total = total;
      waits = let f = is_fewer in omega arith;
      depth = let f = is_fewer in omega arith;
    }

    -- an include
    pub Advances-include : (include : IncludeBlock) → include_of piece ≡ Some include → after.pieces ≡ before.pieces → Advances before after (Some include)
    Advances-include include is pieces = record {
      whole = λ options seen names.
          let files = met names before.total in
          ap (λ (l : List OpenFile). behind before.pieces (remaining options seen l files)) (open_files-last before front file top)
          ∙ ap (behind before.pieces) (remaining-include options seen file (reverse front) files file' piece rest items is_rest include is)
          ∙ sym (rw (pieces, open_files-last after front file' stack, total));
      total = total;
      waiting = let f = is_fewer in omega arith;
      stack = let f = is_fewer in omega arith;
      inside = is_fewer.2;
    }

-- the innermost file, and those around it
pub record HasInner (walk : Walk) : Type 0 where
  pub inner : OpenFile
  pub outer : List OpenFile
  pub files : open_files walk ≡ inner ∷ outer
  pub depth : length outer + 1 ≡ length walk.stack.items

pub has_inner : (walk : Walk) → 0 < length walk.stack.items → HasInner walk
has_inner walk some = at (open_files walk) refl
  where
    at : (files : List OpenFile) → open_files walk ≡ files → HasInner walk
    at [] is = absurd (let none = ap length is in let size = length-reverse walk.stack.items in omega arith)
    at (inner ∷ outer) is = record {
      inner = inner;
      outer = outer;
      files = is;
      depth = let some = ap length is in let size = length-reverse walk.stack.items in omega arith;
    }

module _ (options : Options) (seen : List HeldFile) (names : List (List ℕ)) (walk : Walk) (include : IncludeBlock) (has : HasInner walk) where
  abbrev files : Met
  files = met names walk.total

  abbrev nested : ℕ
  nested = 32 - length has.outer

  -- a fault of the include is one of the whole
  pub whole_from-fails : (later : Met) (fault : Fault) → include_expansion options seen nested has.inner.folder files include ≡ fails later fault →
      whole_from options seen names walk (Some include) ≡ fails later fault
  whole_from-fails later fault is =
      ap (λ (l : List OpenFile). behind walk.pieces (from_include options seen l files include)) has.files
      ∙ fails-through walk.pieces (include_expansion options seen nested has.inner.folder files include) later fault (remaining options seen (has.inner ∷ has.outer)) is

  -- a name that is not well-formed
  pub whole_from-unnamed : file_name_of include.body ≡ None → whole_from options seen names walk (Some include) ≡ fails files (Syntax include.at)
  whole_from-unnamed none =
      whole_from-fails files (Syntax include.at) (include_expansion-unnamed options seen has.inner.folder files include nested none)

  module _ (name : List ℕ) (named : file_name_of include.body ≡ Some name) where
    -- an include that is nested too deeply
    pub whole_from-deep : 32 < length walk.stack.items → whole_from options seen names walk (Some include) ≡ fails files (IncludeDepth include.at 33)
    whole_from-deep deep =
        let depth = has.depth in
        let none : nested ≡ 0 = omega arith in
        whole_from-fails files (IncludeDepth include.at 33)
        (ap (λ (n : ℕ). include_expansion options seen n has.inner.folder files include) none
        ∙ include_expansion-deep options seen has.inner.folder files include name named)

    module _ (shallow : length walk.stack.items ≤ 32) where
      abbrev inside : ℕ
      inside = 32 - length (has.inner ∷ has.outer)

      deeper : nested ≡ suc inside
      deeper = let depth = has.depth in omega arith

      include-deeper : include_expansion options seen nested has.inner.folder files include ≡ include_expansion options seen (suc inside) has.inner.folder files include
      include-deeper = ap (λ (n : ℕ). include_expansion options seen n has.inner.folder files include) deeper

      -- an include without a file
      pub whole_from-none : first_file seen (names_for options has.inner.folder name) ≡ None →
          whole_from options seen names walk (Some include) ≡ fails files (NoFile include.at name)
      whole_from-none none =
          whole_from-fails files (NoFile include.at name)
          (include-deeper ∙ include_expansion-none options seen has.inner.folder files include name named inside none)

      module _ (file : HeldFile) (found : first_file seen (names_for options has.inner.folder name) ≡ Some file) where
        -- an include whose file has a fault
        pub whole_from-faulty : (fault : Fault) → pieces_within options include.at (length names) walk.total file.bytes ≡ Err fault →
            whole_from options seen names walk (Some include) ≡ fails (with_file files file) fault
        whole_from-faulty fault is =
            whole_from-fails (with_file files file) fault
            (include-deeper ∙ include_expansion-faulty options seen has.inner.folder files include name named inside file found fault is)

        module _ (pieces : List SourcePiece) (is : pieces_within options include.at (length names) walk.total file.bytes ≡ Ok pieces)
            (pushed after : Walk) (enters : Enters pushed after file pieces (Some (leave_block include)))
            (same_stack : pushed.stack.items ≡ walk.stack.items) (same_total : pushed.total ≡ walk.total)
            (more_pieces : pushed.pieces ≡ walk.pieces ++ enter_block (length names) ∷ []) where
          opened : open_files after ≡ enters.opened ∷ has.inner ∷ has.outer
          opened =
              open_files-last after pushed.stack.items enters.opened enters.stack
              ∙ ap (λ (l : List OpenFile). enters.opened ∷ reverse l) same_stack ∙ ap (λ (l : List OpenFile). enters.opened ∷ l) has.files

          -- what is behind the include
          abbrev behind_it : Met → Expansion
          behind_it = remaining options seen (has.inner ∷ has.outer)

          -- the pieces of its file
          abbrev inner_pieces : (folder : List ℕ) → Met → List SourcePiece → Expansion
          inner_pieces folder later pieces = pieces_expansion options seen inside folder later pieces

          abbrev leave : List SourcePiece
          leave = leave_block include ∷ []

          entered : include_expansion options seen nested has.inner.folder files include
              ≡ behind (enter_block (length names) ∷ []) (and_then (inner_pieces (folder_of file.name) (with_file files file) pieces) (λ later. gives later leave))
          entered = include-deeper ∙ include_expansion-pieces options seen has.inner.folder files include name named inside file found pieces is

          -- what is still to be expanded of the files that are open now
          abbrev now_open : (folder : List ℕ) → Option SourcePiece → Met → List SourcePiece → Expansion
          now_open folder last later pieces = and_then (inner_pieces folder later pieces) (λ later. behind (option_to_list last) (behind_it later))

          met_is : met (names ++ file.name ∷ []) after.total ≡ with_file files file
          met_is = ap (λ (n : ℕ). met (names ++ file.name ∷ []) n) (enters.total ∙ ap (λ (n : ℕ). n + length file.bytes) same_total)

          now : remaining options seen (open_files after) (met (names ++ file.name ∷ []) after.total)
              ≡ now_open (folder_of file.name) (Some (leave_block include)) (with_file files file) pieces
          now =
              ap (λ (l : List OpenFile). remaining options seen l (met (names ++ file.name ∷ []) after.total)) opened
              ∙ ap (λ (m : Met). now_open enters.opened.folder enters.opened.leave m enters.opened.rest.items) met_is
              ∙ ap (λ (l : List ℕ). now_open l enters.opened.leave (with_file files file) enters.opened.rest.items) enters.folder
              ∙ ap (λ (o : Option SourcePiece). now_open (folder_of file.name) o (with_file files file) enters.opened.rest.items) enters.leaves
              ∙ ap (λ (l : List SourcePiece). now_open (folder_of file.name) (Some (leave_block include)) (with_file files file) l) enters.waits

          -- an include whose file is entered
          pub whole_from-enters : whole_from options seen names walk (Some include) ≡ whole_of options seen (names ++ file.name ∷ []) after
          whole_from-enters =
              let inner = inner_pieces (folder_of file.name) (with_file files file) pieces in
              let enter = enter_block (length names) ∷ [] in
              ap (λ (l : List OpenFile). behind walk.pieces (from_include options seen l files include)) has.files
              ∙ ap (λ (e : Expansion). behind walk.pieces (and_then e behind_it)) entered
              ∙ ap (behind walk.pieces) (and_then-behind enter (and_then inner (λ later. gives later leave)) behind_it)
              ∙ ap (λ (e : Expansion). behind walk.pieces (behind enter e)) (and_then-and_then inner (λ later. gives later leave) behind_it)
              ∙ behind-append walk.pieces enter (now_open (folder_of file.name) (Some (leave_block include)) (with_file files file) pieces)
              ∙ sym (ap (λ (l : List SourcePiece). behind l (remaining options seen (open_files after) (met (names ++ file.name ∷ []) after.total))) (enters.before_it ∙ more_pieces)
              ∙ ap (behind (walk.pieces ++ enter)) now)

        module _ (number total : ℕ) (number_is : number ≡ length names) (total_is : total ≡ walk.total) where
          within_is : pieces_within options include.at number total file.bytes ≡ pieces_within options include.at (length names) walk.total file.bytes
          within_is = rw (number_is, total_is)

          -- a file that is not entered
          pub whole_from-stops : (stop : Stop) → StopsWith (pieces_within options include.at number total file.bytes) stop →
              StopsWhole (whole_from options seen names walk (Some include)) (names ++ file.name ∷ []) stop
          whole_from-stops stops.Memory is = tt
          whole_from-stops (stops.Fault fault) is =
              let whole = whole_from-faulty fault (sym within_is ∙ is) in
              (ap (λ (e : Expansion). e.found) whole, ap (λ (e : Expansion). e.met.names) whole)

          -- a file that is entered
          pub whole_from-entered : (pieces : List SourcePiece) → pieces_within options include.at number total file.bytes ≡ Ok pieces →
              (pushed after : Walk) → Enters pushed after file pieces (Some (leave_block include)) →
              pushed.stack.items ≡ walk.stack.items → pushed.total ≡ walk.total → pushed.pieces ≡ walk.pieces ++ enter_block number ∷ [] →
              whole_from options seen names walk (Some include) ≡ whole_of options seen (names ++ file.name ∷ []) after
          whole_from-entered pieces is pushed after enters same_stack same_total more =
              whole_from-enters pieces (sym within_is ∙ is) pushed after enters same_stack same_total
              (more ∙ ap (λ (n : ℕ). walk.pieces ++ enter_block n ∷ []) number_is)

-- a file that is entered is one more, and no more pieces wait than it has bytes
pub Takes-enters : (names : List (List ℕ)) (walk pushed after : Walk) (file : HeldFile) (pieces : List SourcePiece) (leave : Option SourcePiece) →
    Enters pushed after file pieces leave → pushed.stack.items ≡ walk.stack.items → pushed.total ≡ walk.total → length walk.stack.items ≤ 32 →
    Takes names (names ++ file.name ∷ []) walk after
Takes-enters names walk pushed after file pieces leave enters same_stack same_total shallow =
    let opened = open_files-last after pushed.stack.items enters.opened enters.stack ∙ ap (λ (l : List OpenFile). enters.opened ∷ reverse l) same_stack in
    let waits = ap waiting opened in
    let count = ap length enters.waits in
    let few = enters.few in
    let total = enters.total in
    let size = ap length enters.stack ∙ length-append pushed.stack.items (enters.opened ∷ []) in
    let same = ap length same_stack in record {
      named = length-append names (file.name ∷ []);
      stack = omega arith;
      depth = omega arith;
      waiting = omega arith;
      more = omega arith;
      within = enters.within;
    }

-- a new walk in which the main file is entered
module _ (walk after : Walk) (file : HeldFile) (pieces : List SourcePiece) (new : IsNewWalk walk) (enters : Enters walk after file pieces None) where
  main-opened : open_files after ≡ enters.opened ∷ []
  main-opened =
      open_files-last after walk.stack.items enters.opened enters.stack ∙ ap (λ (l : List OpenFile). enters.opened ∷ reverse l) new.stack

  pub Starts-enters : Starts after
  Starts-enters =
      let waits = ap waiting main-opened in
      let count = ap length enters.waits in
      let few = enters.few in
      let total = enters.total in
      let none = new.total in
      let size = ap length enters.stack ∙ length-append walk.stack.items (enters.opened ∷ []) in
      let empty = ap length new.stack in record {
        few = omega arith;
        depth = omega arith;
        within = enters.within;
      }

  module _ (options : Options) (seen : List HeldFile) (held : bytes_of seen file.name ≡ Some file.bytes)
      (is : pieces_within options (file_start 0) 0 walk.total file.bytes ≡ Ok pieces) where
    -- what stands for the pieces of the main file
    abbrev main_pieces : (folder : List ℕ) → Met → List SourcePiece → Expansion
    main_pieces folder later pieces = pieces_expansion options seen 32 folder later pieces

    abbrev main_open : (folder : List ℕ) → Option SourcePiece → Met → List SourcePiece → Expansion
    main_open folder last later pieces = and_then (main_pieces folder later pieces) (λ last_met. behind (option_to_list last) (gives last_met []))

    split_is : pieces_within options (file_start 0) 0 0 file.bytes ≡ Ok pieces
    split_is = ap (λ (n : ℕ). pieces_within options (file_start 0) 0 n file.bytes) (sym new.total) ∙ is

    main-is : expansion options seen file.name ≡ main_pieces (folder_of file.name) (with_file (met [] 0) file) pieces
    main-is = rw (held, split_is)

    main-met : met (file.name ∷ []) after.total ≡ with_file (met [] 0) file
    main-met = ap (λ (n : ℕ). met (file.name ∷ []) n) (enters.total ∙ ap (λ (n : ℕ). n + length file.bytes) new.total)

    pub whole_of-main : expansion options seen file.name ≡ whole_of options seen (file.name ∷ []) after
    whole_of-main =
        main-is ∙ sym (and_then-nothing (main_pieces (folder_of file.name) (with_file (met [] 0) file) pieces))
        ∙ sym (ap (λ (l : List SourcePiece). behind l (remaining options seen (open_files after) (met (file.name ∷ []) after.total))) (enters.before_it ∙ new.pieces)
        ∙ behind-nil (remaining options seen (open_files after) (met (file.name ∷ []) after.total))
        ∙ ap (λ (l : List OpenFile). remaining options seen l (met (file.name ∷ []) after.total)) main-opened
        ∙ ap (λ (m : Met). main_open enters.opened.folder enters.opened.leave m enters.opened.rest.items) main-met
        ∙ ap (λ (l : List ℕ). main_open l enters.opened.leave (with_file (met [] 0) file) enters.opened.rest.items) enters.folder
        ∙ ap (λ (o : Option SourcePiece). main_open (folder_of file.name) o (with_file (met [] 0) file) enters.opened.rest.items) enters.leaves
        ∙ ap (λ (l : List SourcePiece). main_open (folder_of file.name) None (with_file (met [] 0) file) l) enters.waits)
