-- The names of the files met, in an expansion.
use Rattle.std.proofs.Common.{◌≡◌, ℕ, zero, suc, ◌-◌, List, [], ◌∷◌, ◌++◌, length, Option, Some, None, Ok, Err, refl, sym, ◌∙◌, ap, append_assoc, append-nil}
use Rattle.std.specs.Prelude.{option_to_list}
use Rattle.lx_base.specs.Places.{file_start}
use Rattle.lx_base.specs.declared.faults.Fault.TheVariants.{IncludeDepth, NoFile, Syntax}
use Rattle.lx_base.specs.declared.places.Pos.{Pos}
use Rattle.lx_base.specs.declared.settings.Options.{Options}
use Rattle.lx_files.specs.Held.{bytes_of}
use Rattle.lx_files.specs.declared.files.HeldFile.{HeldFile}
use Rattle.lx_split.specs.declared.includes.IncludeBlock.{IncludeBlock}
use Rattle.lx_split.specs.declared.pieces.SourcePiece.{SourcePiece}
use Rattle.lx_split.specs.declared.walk.OpenFile.{OpenFile}
use Rattle.lx_split.specs.declared.walk.Walk.{Walk}
use Rattle.lx_split.specs.IncludeNames.{file_name_of, folder_of, names_for}
use Rattle.lx_split.specs.Pieces.{Split}
use Rattle.lx_split.specs.Includes.{AreFirstMet, Expansion, Met, and_then, behind, expanded, expansion, fails, file_expansion, first_file, found_include, found_then, gives, go_on, if_named, include_expansion, include_of, leave_block, main_expansion, met, piece_then, pieces_expansion, pieces_within, with_file}
use Rattle.lx_split.specs.Walks.{from_include, open_files, remaining, whole_from}

-- no name is taken away
abbrev pub Grows : Met → Expansion → Type 0
Grows files whole = AreFirstMet whole files.names

Grows-same : (files : Met) (found : Split) → Grows files (record { met = files; found = found })
Grows-same files found = ([], sym (append-nil files.names))

Grows-later : (files later : Met) (whole : Expansion) (more : List (List ℕ)) → later.names ≡ files.names ++ more → Grows later whole → Grows files whole
Grows-later files later whole more is grows =
    (more ++ grows.0, grows.1 ∙ ap (λ (l : List (List ℕ)). l ++ grows.0) is ∙ append_assoc files.names more grows.0)

Grows-found_then : (files later : Met) (found : Split) (next : Met → Expansion) (more : List (List ℕ)) → later.names ≡ files.names ++ more →
    ((files : Met) → Grows files (next files)) → Grows files (found_then later found next)
Grows-found_then files later (Ok pieces) next more is grows = Grows-later files later (next later) more is (grows later)
Grows-found_then files later (Err fault) next more is grows = (more, is)

Grows-and_then : (files : Met) (first : Expansion) (next : Met → Expansion) → Grows files first → ((files : Met) → Grows files (next files)) → Grows files (and_then first next)
Grows-and_then files first next one two = Grows-found_then files first.met first.found next one.0 one.1 two

Grows-piece_then : (expand_include : Met → IncludeBlock → Expansion) (piece : SourcePiece) (include : Option IncludeBlock) →
    ((files : Met) (include : IncludeBlock) → Grows files (expand_include files include)) → (files : Met) → Grows files (piece_then expand_include files piece include)
Grows-piece_then expand_include piece None grows files = Grows-same files (Ok (piece ∷ []))
Grows-piece_then expand_include piece (Some include) grows files = grows files include

Grows-expanded : (expand_include : Met → IncludeBlock → Expansion) → ((files : Met) (include : IncludeBlock) → Grows files (expand_include files include)) →
    (pieces : List SourcePiece) (files : Met) → Grows files (expanded expand_include files pieces)
Grows-expanded expand_include grows [] files = Grows-same files (Ok [])
Grows-expanded expand_include grows (piece ∷ pieces) files =
    Grows-and_then files (piece_then expand_include files piece (include_of piece)) (λ later. expanded expand_include later pieces)
    (Grows-piece_then expand_include piece (include_of piece) grows files) (Grows-expanded expand_include grows pieces)

Grows-go_on : (expand : Met → List SourcePiece → Expansion) → ((files : Met) (pieces : List SourcePiece) → Grows files (expand files pieces)) →
    (files : Met) (split : Split) → Grows files (go_on expand files split)
Grows-go_on expand grows files (Ok pieces) = grows files pieces
Grows-go_on expand grows files (Err fault) = Grows-same files (Err fault)

module _ (expand : (folder : List ℕ) → Met → List SourcePiece → Expansion)
    (grows : (folder : List ℕ) (files : Met) (pieces : List SourcePiece) → Grows files (expand folder files pieces)) (options : Options) where
  -- the names with that of the file are kept
  Grows-file_expansion : (at : Pos) (files : Met) (file : HeldFile) → Grows (with_file files file) (file_expansion expand options at files file)
  Grows-file_expansion at files file =
      Grows-go_on (expand (folder_of file.name)) (grows (folder_of file.name)) (with_file files file) (pieces_within options at (length files.names) files.total file.bytes)

  Grows-found_include : (seen : List HeldFile) (files : Met) (include : IncludeBlock) (name : List ℕ) (file : Option HeldFile) →
      Grows files (found_include options seen expand files include name file)
  Grows-found_include seen files include name None = Grows-same files (Err (NoFile include.at name))
  Grows-found_include seen files include name (Some file) =
      let inner = file_expansion expand options include.at files file in
      let inside = Grows-later files (with_file files file) inner (file.name ∷ []) refl (Grows-file_expansion include.at files file) in
      Grows-and_then files inner (λ later. gives later (leave_block include ∷ [])) inside (λ later. Grows-same later (Ok (leave_block include ∷ [])))

Grows-if_named : (files : Met) (include : IncludeBlock) (next : List ℕ → Expansion) (name : Option (List ℕ)) → ((name : List ℕ) → Grows files (next name)) →
    Grows files (if_named files include next name)
Grows-if_named files include next None grows = Grows-same files (Err (Syntax include.at))
Grows-if_named files include next (Some name) grows = grows name

module _ (options : Options) (seen : List HeldFile) where
  Grows-include_expansion : (left : ℕ) (folder : List ℕ) (files : Met) (include : IncludeBlock) → Grows files (include_expansion options seen left folder files include)
  unfolding include_expansion
  Grows-include_expansion zero folder files include =
      Grows-if_named files include (λ name. fails files (IncludeDepth include.at 33)) (file_name_of include.body) (λ name. Grows-same files (Err (IncludeDepth include.at 33)))
  Grows-include_expansion (suc left) folder files include =
      let inner : (folder : List ℕ) → Met → List SourcePiece → Expansion = λ folder. expanded (include_expansion options seen left folder) in
      Grows-if_named files include
      (λ name. found_include options seen inner files include name (first_file seen (names_for options folder name)))
      (file_name_of include.body)
      (λ name. Grows-found_include inner (λ folder files pieces. Grows-expanded (include_expansion options seen left folder) (Grows-include_expansion left folder) pieces files)
      options seen files include name (first_file seen (names_for options folder name)))

  Grows-pieces : (left : ℕ) (folder : List ℕ) (files : Met) (pieces : List SourcePiece) → Grows files (pieces_expansion options seen left folder files pieces)
  Grows-pieces left folder files pieces = Grows-expanded (include_expansion options seen left folder) (Grows-include_expansion left folder) pieces files

  Grows-remaining : (stack : List OpenFile) (files : Met) → Grows files (remaining options seen stack files)
  Grows-remaining [] files = Grows-same files (Ok [])
  Grows-remaining (file ∷ outer) files =
      Grows-and_then files (pieces_expansion options seen (32 - length outer) file.folder files file.rest.items)
      (λ later. behind (option_to_list file.leave) (remaining options seen outer later))
      (Grows-pieces (32 - length outer) file.folder files file.rest.items) (Grows-remaining outer)

  Grows-from_include : (stack : List OpenFile) (files : Met) (include : IncludeBlock) → Grows files (from_include options seen stack files include)
  Grows-from_include [] files include = Grows-same files (Ok [])
  Grows-from_include (file ∷ outer) files include =
      Grows-and_then files (include_expansion options seen (32 - length outer) file.folder files include) (remaining options seen (file ∷ outer))
      (Grows-include_expansion (32 - length outer) file.folder files include) (Grows-remaining (file ∷ outer))

  -- the names of the files met so far are the first of all
  pub AreFirstMet-from : (names : List (List ℕ)) (walk : Walk) (include : IncludeBlock) → AreFirstMet (whole_from options seen names walk (Some include)) names
  AreFirstMet-from names walk include = Grows-from_include (open_files walk) (met names walk.total) include

  main-first : (main : List ℕ) (bytes : Option (List ℕ)) → AreFirstMet (main_expansion options seen main bytes) (main ∷ [])
  main-first main None = ([], refl)
  main-first main (Some bytes) =
      let file : HeldFile = record { name = main; bytes = bytes } in
      Grows-file_expansion (pieces_expansion options seen 32) (Grows-pieces 32) options (file_start 0) (met [] 0) file

  -- the main file is met first
  pub AreFirstMet-main : (main : List ℕ) → AreFirstMet (expansion options seen main) (main ∷ [])
  AreFirstMet-main main = main-first main (bytes_of seen main)
