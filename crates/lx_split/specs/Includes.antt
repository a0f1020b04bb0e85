-- The pieces of a source with its includes put in.
use Rattle.std.specs.Prelude.{◌≡◌, ℕ, zero, suc, ◌+◌, List, [], ◌∷◌, ◌++◌, length, nat_lt, Option, Some, None, Result, Ok, Err, if◌then◌else◌}
use Rattle.lx_base.specs.declared.limits.TheConstants.{SOURCE_LIMIT}
use Rattle.lx_base.specs.declared.blocks.BlockKind.{BlockKind}
use Rattle.lx_base.specs.declared.blocks.BlockKind.TheVariants.{Include, Enter, Leave}
use Rattle.lx_base.specs.declared.places.Pos.{Pos}
use Rattle.lx_base.specs.Places.{file_start}
use Rattle.lx_base.specs.declared.settings.Options.{Options}
use Rattle.lx_base.specs.declared.faults.Fault.{Fault}
use Rattle.lx_base.specs.declared.faults.Fault.TheVariants.{IncludeDepth, NoFile, Syntax, TooLong}
use Rattle.lx_base.specs.declared.faults.Stop.{Stop}
use Rattle.lx_base.specs.declared.faults.Stop.TheVariants as split_stop
use Rattle.lx_files.specs.Held.{bytes_of}
use Rattle.lx_files.specs.declared.files.HeldFile.{HeldFile}
use Rattle.lx_split.specs.declared.expanding.ExpandStop.{ExpandStop}
use Rattle.lx_split.specs.declared.expanding.ExpandStop.TheVariants as stop
use Rattle.lx_split.specs.declared.includes.IncludeBlock.{IncludeBlock}
use Rattle.lx_split.specs.declared.library.FoundFile.{FoundFile}
use Rattle.lx_split.specs.declared.pieces.SourcePiece.{SourcePiece}
use Rattle.lx_split.specs.declared.pieces.SourcePiece.TheVariants.{Outside, Block}
use Rattle.lx_split.specs.IncludeNames.{file_name_of, folder_of, names_for}
use Rattle.lx_split.specs.Pieces.{Split, pieces_of}

-- the files met so far: their names, in order, and how many bytes they have
pub record Met : Type 0 where
  pub names : List (List ℕ)
  pub total : ℕ

abbrev pub met : List (List ℕ) → ℕ → Met
met names total = record { names = names; total = total }

-- the files met, and the pieces or the first fault
pub record Expansion : Type 0 where
  pub met : Met
  pub found : Split

abbrev pub gives : Met → List SourcePiece → Expansion
gives files pieces = record { met = files; found = Ok pieces }

abbrev pub fails : Met → Fault → Expansion
fails files fault = record { met = files; found = Err fault }

-- pieces, and then what is found next
abbrev pub pieces_then : List SourcePiece → Split → Split
pieces_then pieces (Ok more) = Ok (pieces ++ more)
pieces_then pieces (Err fault) = Err fault

abbrev pub behind : List SourcePiece → Expansion → Expansion
behind pieces later = record { met = later.met; found = pieces_then pieces later.found }

-- the next expansion, behind the pieces that were found; a fault ends it
abbrev pub found_then : Met → Split → (next : Met → Expansion) → Expansion
found_then files (Ok pieces) next = behind pieces (next files)
found_then files (Err fault) next = fails files fault

abbrev pub and_then : Expansion → (next : Met → Expansion) → Expansion
and_then first next = found_then first.met first.found next

-- the include that a piece is, if it is one
abbrev pub include_of : SourcePiece → Option IncludeBlock
include_of (Outside text) = None
include_of (Block Include body at body_at end_line) = Some (record { body = body; at = at; end_line = end_line })
include_of (Block kind body at body_at end_line) = None

-- a block of which no text stands in the source
abbrev pub empty_block : BlockKind → Pos → (end_line : ℕ) → SourcePiece
empty_block kind at end_line = Block kind [] at at end_line

-- the blocks that stand around the pieces of an included file: at its start, and at its include
abbrev pub enter_block : (file : ℕ) → SourcePiece
enter_block file = empty_block Enter (file_start file) 1

abbrev pub leave_block : IncludeBlock → SourcePiece
leave_block include = empty_block Leave include.at include.end_line

-- a piece is this include, or none and this piece
abbrev pub IsIncludeOr : SourcePiece → Result IncludeBlock SourcePiece → Type 0
IsIncludeOr piece (Ok include) = include_of piece ≡ Some include
IsIncludeOr piece (Err other) = (other ≡ piece) × (include_of piece ≡ None)

-- what stands for a piece, that is an include or none
abbrev pub piece_then : (expand_include : Met → IncludeBlock → Expansion) → Met → SourcePiece → Option IncludeBlock → Expansion
piece_then expand_include files piece None = gives files (piece ∷ [])
piece_then expand_include files piece (Some include) = expand_include files include

-- what stands for the pieces of a file, of which each include is expanded
abbrev pub expanded : (expand_include : Met → IncludeBlock → Expansion) → Met → List SourcePiece → Expansion
expanded expand_include files [] = gives files []
expanded expand_include files (piece ∷ pieces) =
    and_then (piece_then expand_include files piece (include_of piece)) (λ later. expanded expand_include later pieces)

-- the files met with one more
abbrev pub with_file : Met → HeldFile → Met
with_file files file = met (files.names ++ file.name ∷ []) (files.total + length file.bytes)

-- the pieces of a file, where `before` bytes are met before it: too many with it is a fault at the place
abbrev pub pieces_within : Options → Pos → (file before : ℕ) → (bytes : List ℕ) → Split
pieces_within options at file before bytes =
    if nat_lt SOURCE_LIMIT (before + length bytes) then Err (TooLong at (before + length bytes)) else pieces_of options file bytes

-- the pieces go on to be expanded
abbrev pub go_on : (expand : Met → List SourcePiece → Expansion) → Met → Split → Expansion
go_on expand files (Ok pieces) = expand files pieces
go_on expand files (Err fault) = fails files fault

-- what stands for a file that is met behind others, whose faults, but those in it, stand at the place
abbrev pub file_expansion : (expand : (folder : List ℕ) → Met → List SourcePiece → Expansion) → Options → Pos → Met → HeldFile → Expansion
file_expansion expand options at files file =
    go_on (expand (folder_of file.name)) (with_file files file) (pieces_within options at (length files.names) files.total file.bytes)

-- the same between the blocks that stand around it
abbrev pub between : (file : ℕ) → IncludeBlock → Expansion → Expansion
between file include inner = behind (enter_block file ∷ []) (and_then inner (λ later. gives later (leave_block include ∷ [])))

-- the file of this name and these bytes, if there are such, or what is found else
abbrev pub file_or : Option HeldFile → (name : List ℕ) → Option (List ℕ) → Option HeldFile
file_or other name None = other
file_or other name (Some bytes) = Some (record { name = name; bytes = bytes })

-- the first file that has one of the names, in their order
abbrev pub first_file : (seen : List HeldFile) → (names : List (List ℕ)) → Option HeldFile
first_file seen [] = None
first_file seen (name ∷ names) = file_or (first_file seen names) name (bytes_of seen name)

-- a file as it was found
abbrev pub found_view : FoundFile → HeldFile
found_view found = record { name = found.name.now; bytes = found.bytes.now }

-- what is found under the name of an include, if it is well-formed
abbrev pub if_named : Met → IncludeBlock → (next : List ℕ → Expansion) → (name : Option (List ℕ)) → Expansion
if_named files include next None = fails files (Syntax include.at)
if_named files include next (Some name) = next name

module _ (options : Options) (seen : List HeldFile) where
  -- an include whose file is found, or not
  abbrev pub found_include : (expand : (folder : List ℕ) → Met → List SourcePiece → Expansion) → Met → IncludeBlock → (name : List ℕ) → Option HeldFile → Expansion
  found_include expand files include name None = fails files (NoFile include.at name)
  found_include expand files include name (Some file) =
      between (length files.names) include (file_expansion expand options include.at files file)

  -- An include in a file of this folder, where `left` further ones may be nested: the pieces of its file, between two blocks.
  -- Its name, and then how deep it stands, come before its file.
  unfoldable pub include_expansion : (left : ℕ) → (folder : List ℕ) → Met → IncludeBlock → Expansion
  include_expansion zero folder files include =
      if_named files include (λ name. fails files (IncludeDepth include.at 33)) (file_name_of include.body)
  include_expansion (suc left) folder files include =
      if_named files include
      (λ name. found_include (λ folder. expanded (include_expansion left folder)) files include name (first_file seen (names_for options folder name)))
      (file_name_of include.body)

  -- what stands for the pieces of a file in this folder
  abbrev pub pieces_expansion : (left : ℕ) → (folder : List ℕ) → Met → List SourcePiece → Expansion
  pieces_expansion left folder files pieces = expanded (include_expansion left folder) files pieces

  -- what stands for the main file, which may be there or not
  abbrev pub main_expansion : (main : List ℕ) → Option (List ℕ) → Expansion
  main_expansion main None = fails (met (main ∷ []) 0) (NoFile (file_start 0) main)
  main_expansion main (Some bytes) =
      file_expansion (pieces_expansion 32) options (file_start 0) (met [] 0) (record { name = main; bytes = bytes })

  -- The pieces of a source, over files of which these are seen: each include stands for the pieces of its file, between a
  -- block that enters it and one that leaves it. At most 32 are nested. Or the first fault.
  abbrev pub expansion : (main : List ℕ) → Expansion
  expansion main = main_expansion main (bytes_of seen main)

-- an expansion gives these pieces, and these are the names of the files met
abbrev pub Expands : Expansion → (names : List (List ℕ)) → List SourcePiece → Type 0
Expands whole names pieces = (whole.found ≡ Ok pieces) × (whole.met.names ≡ names)

-- the names are those of the files met in the expansion, or the first of them
abbrev pub AreFirstMet : Expansion → (names : List (List ℕ)) → Type 0
AreFirstMet whole names = (more : List (List ℕ)) × (whole.met.names ≡ names ++ more)

-- a call that is to give the pieces stops with the first fault, or where a read failed or memory ran out; `CountRose` says that
-- the count of faults of reads rose
abbrev pub StopsExpansion : Expansion → (CountRose : Type 0) → (names : List (List ℕ)) → ExpandStop → Type 0
StopsExpansion whole CountRose names stop.Memory = Unit {0}
StopsExpansion whole CountRose names (stop.Fault fault) = (whole.found ≡ Err fault) × (whole.met.names ≡ names)
StopsExpansion whole CountRose names stop.ReadFailed = CountRose × AreFirstMet whole names

-- there is no file of this name, or memory ran out on the way to say so
abbrev pub IsNoFile : Pos → (name : List ℕ) → ExpandStop → Type 0
IsNoFile at name stop.Memory = Unit {0}
IsNoFile at name (stop.Fault fault) = fault ≡ NoFile at name
IsNoFile at name stop.ReadFailed = ⊥

-- a call that is to read a file stops where a read failed or memory ran out
abbrev pub StopsRead : (CountRose : Type 0) → ExpandStop → Type 0
StopsRead CountRose stop.Memory = Unit {0}
StopsRead CountRose (stop.Fault fault) = ⊥
StopsRead CountRose stop.ReadFailed = CountRose

-- where the pieces of one file are refused, the source is
abbrev pub expand_stop : Stop → ExpandStop
expand_stop split_stop.Memory = stop.Memory
expand_stop (split_stop.Fault fault) = stop.Fault fault

-- an expansion fails with the fault of this stop, which is one
abbrev pub FailsAs : Expansion → Met → ExpandStop → Type 0
FailsAs whole files stop.Memory = ⊥
FailsAs whole files (stop.Fault fault) = whole ≡ fails files fault
FailsAs whole files stop.ReadFailed = ⊥

-- the same, or memory ran out
abbrev pub StopsAs : Expansion → Met → ExpandStop → Type 0
StopsAs whole files stop.Memory = Unit {0}
StopsAs whole files (stop.Fault fault) = whole ≡ fails files fault
StopsAs whole files stop.ReadFailed = ⊥
