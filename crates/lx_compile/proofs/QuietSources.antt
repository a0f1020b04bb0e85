-- Sources are cut, and includes put in, as well where no warnings are asked for.
use Rattle.std.proofs.Common.{◌≡◌, ◌∙◌, ℕ, zero, suc, ◌+◌, List, [], ◌∷◌, ◌++◌, drop, length, Option, Some, None, Ok, Err, refl, ap}
use Rattle.std.specs.Prelude.{nat_lt, if◌then◌else◌}
use Rattle.lx_base.specs.Places.{file_start}
use Rattle.lx_base.specs.declared.faults.Fault.TheVariants.{TooLong}
use Rattle.lx_base.specs.declared.blocks.BlockKind.{BlockKind}
use Rattle.lx_base.specs.declared.limits.TheConstants.{SOURCE_LIMIT}
use Rattle.lx_base.specs.declared.places.Pos.{Pos}
use Rattle.lx_base.specs.declared.settings.Options.{Options}
use Rattle.lx_files.specs.Held.{bytes_of}
use Rattle.lx_files.specs.declared.files.HeldFile.{HeldFile}
use Rattle.lx_split.specs.Bodies.{after_block}
use Rattle.lx_split.specs.IncludeNames.{file_name_of, folder_of, names_for}
use Rattle.lx_split.specs.Includes.{Expansion, Met, and_then, behind, between, expanded, expansion, file_expansion, first_file, found_include, found_then, go_on, if_named, include_expansion, include_of, main_expansion, met, piece_then, pieces_within, with_file}
use Rattle.lx_split.specs.Marks.{mark_place}
use Rattle.lx_split.specs.Openers.{from_opener, opener_at}
use Rattle.lx_split.specs.Pieces.{Split, at_end, at_opener, before, opener_size, outside, pieces_from, unless_marked}
use Rattle.lx_split.specs.declared.includes.IncludeBlock.{IncludeBlock}
use Rattle.lx_split.specs.declared.openers.Opener.{Opener}
use Rattle.lx_split.specs.declared.openers.Opener.TheVariants.{Absent, Refused, Opens}
use Rattle.lx_split.specs.declared.pieces.SourcePiece.{SourcePiece}
use Rattle.lx_token.specs.Tokens.{place_of_rest}
use Rattle.lx_compile.specs.Warnings.{quiet_options}

-- ---- pieces

-- how the pieces go on behind a block
abbrev Next : Type 0
Next = List SourcePiece → Pos → List ℕ → Split

abbrev GoAlike : Next → Next → Type 0
GoAlike next other = (done : List SourcePiece) (at : Pos) (text : List ℕ) → next done at text ≡ other done at text

at_end-alike : (next other : Next) → GoAlike next other → (done : List SourcePiece) (kind : BlockKind) (at : Pos) (text : List ℕ) (end : Option (List ℕ))
    → at_end next done kind at text end ≡ at_end other done kind at text end
at_end-alike next other alike done kind at text None = refl
at_end-alike next other alike done kind at text (Some rest) = alike _ _ rest

at_opener-alike : (next other : Next) → GoAlike next other → (done : List SourcePiece) (at : Pos) (text : List ℕ) (opener : Opener)
    → at_opener next done at text opener ≡ at_opener other done at text opener
at_opener-alike next other alike done at text Absent = refl
at_opener-alike next other alike done at text Refused = refl
at_opener-alike next other alike done at text (Opens kind) =
    at_end-alike next other alike done kind at text (after_block kind (drop (opener_size kind) text))

-- ---- expansions

abbrev Expand : Type 0
Expand = Met → IncludeBlock → Expansion

abbrev ExpandAlike : Expand → Expand → Type 0
ExpandAlike expand other = (files : Met) (include : IncludeBlock) → expand files include ≡ other files include

piece_then-alike : (expand other : Expand) → ExpandAlike expand other → (files : Met) (piece : SourcePiece) (include : Option IncludeBlock)
    → piece_then expand files piece include ≡ piece_then other files piece include
piece_then-alike expand other alike files piece None = refl
piece_then-alike expand other alike files piece (Some include) = alike files include

found_then-alike : (files : Met) (found : Split) (next other : Met → Expansion) → ((later : Met) → next later ≡ other later)
    → found_then files found next ≡ found_then files found other
found_then-alike files (Ok pieces) next other alike = ap (behind pieces) (alike files)
found_then-alike files (Err fault) next other alike = refl

expanded-alike : (expand other : Expand) → ExpandAlike expand other → (files : Met) (pieces : List SourcePiece)
    → expanded expand files pieces ≡ expanded other files pieces
expanded-alike expand other alike files [] = refl
expanded-alike expand other alike files (piece ∷ pieces) =
    ap (λ (first : Expansion). and_then first (λ later. expanded expand later pieces)) (piece_then-alike expand other alike files piece (include_of piece))
    ∙ (let first = piece_then other files piece (include_of piece) in
    found_then-alike first.met first.found (λ later. expanded expand later pieces) (λ later. expanded other later pieces)
    (λ later. expanded-alike expand other alike later pieces))

go_on-alike : (expand other : Met → List SourcePiece → Expansion) → ((files : Met) (pieces : List SourcePiece) → expand files pieces ≡ other files pieces)
    → (files : Met) (split : Split) → go_on expand files split ≡ go_on other files split
go_on-alike expand other alike files (Ok pieces) = alike files pieces
go_on-alike expand other alike files (Err fault) = refl

if_named-alike : (files : Met) (include : IncludeBlock) (next other : List ℕ → Expansion) → ((name : List ℕ) → next name ≡ other name)
    → (name : Option (List ℕ)) → if_named files include next name ≡ if_named files include other name
if_named-alike files include next other alike None = refl
if_named-alike files include next other alike (Some name) = alike name

-- ---- of the same options

module _ (options : Options) where
  abbrev quiet : Options
  quiet = quiet_options options

  pieces_from-quiet : (steps : ℕ) → GoAlike (pieces_from steps quiet) (pieces_from steps options)
  pieces_from-quiet zero done at text = refl
  pieces_from-quiet (suc steps) done at text =
      let rest = from_opener options text in
      at_opener-alike (pieces_from steps quiet) (pieces_from steps options) (pieces_from-quiet steps) (done ++ outside (before text rest))
      (place_of_rest at text rest) rest (opener_at options rest)

  pieces_within-quiet : (at : Pos) (file count : ℕ) (bytes : List ℕ) → pieces_within quiet at file count bytes ≡ pieces_within options at file count bytes
  pieces_within-quiet at file count bytes =
      ap (λ (split : Split). if nat_lt SOURCE_LIMIT (count + length bytes) then Err (TooLong at (count + length bytes)) else unless_marked (mark_place (file_start file) bytes) split)
      (pieces_from-quiet (suc (length bytes)) [] (file_start file) bytes)

  file_expansion-quiet : (expand other : List ℕ → Met → List SourcePiece → Expansion)
      → ((folder : List ℕ) (files : Met) (pieces : List SourcePiece) → expand folder files pieces ≡ other folder files pieces)
      → (at : Pos) (files : Met) (file : HeldFile) → file_expansion expand quiet at files file ≡ file_expansion other options at files file
  file_expansion-quiet expand other alike at files file =
      ap (go_on (expand (folder_of file.name)) (with_file files file)) (pieces_within-quiet at (length files.names) files.total file.bytes)
      ∙ go_on-alike (expand (folder_of file.name)) (other (folder_of file.name)) (alike (folder_of file.name)) (with_file files file)
      (pieces_within options at (length files.names) files.total file.bytes)

  module _ (seen : List HeldFile) where
    found_include-quiet : (expand other : List ℕ → Met → List SourcePiece → Expansion)
        → ((folder : List ℕ) (files : Met) (pieces : List SourcePiece) → expand folder files pieces ≡ other folder files pieces)
        → (files : Met) (include : IncludeBlock) (name : List ℕ) (file : Option HeldFile)
        → found_include quiet seen expand files include name file ≡ found_include options seen other files include name file
    found_include-quiet expand other alike files include name None = refl
    found_include-quiet expand other alike files include name (Some file) =
        ap (between (length files.names) include) (file_expansion-quiet expand other alike include.at files file)

    include-quiet : (left : ℕ) (folder : List ℕ) → ExpandAlike (include_expansion quiet seen left folder) (include_expansion options seen left folder)
    unfolding include_expansion
    include-quiet zero folder files include = refl
    include-quiet (suc left) folder files include =
        if_named-alike files include
        (λ name. found_include quiet seen (λ folder. expanded (include_expansion quiet seen left folder)) files include name (first_file seen (names_for options folder name)))
        (λ name. found_include options seen (λ folder. expanded (include_expansion options seen left folder)) files include name (first_file seen (names_for options folder name)))
        (λ name. found_include-quiet (λ folder. expanded (include_expansion quiet seen left folder)) (λ folder. expanded (include_expansion options seen left folder))
        (λ folder. expanded-alike (include_expansion quiet seen left folder) (include_expansion options seen left folder) (include-quiet left folder))
        files include name (first_file seen (names_for options folder name)))
        (file_name_of include.body)

    main-quiet : (main : List ℕ) (bytes : Option (List ℕ)) → main_expansion quiet seen main bytes ≡ main_expansion options seen main bytes
    main-quiet main None = refl
    main-quiet main (Some bytes) =
        file_expansion-quiet (λ folder. expanded (include_expansion quiet seen 32 folder)) (λ folder. expanded (include_expansion options seen 32 folder))
        (λ folder. expanded-alike (include_expansion quiet seen 32 folder) (include_expansion options seen 32 folder) (include-quiet 32 folder))
        (file_start 0) (met [] 0) (record { name = main; bytes = bytes })

    pub expansion-quiet : (main : List ℕ) → expansion quiet seen main ≡ expansion options seen main
    expansion-quiet main = main-quiet main (bytes_of seen main)
