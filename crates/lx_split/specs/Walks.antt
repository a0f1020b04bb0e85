-- What is still to be expanded while files are open.
use Rattle.std.specs.Prelude.{◌≡◌, ℕ, ◌+◌, ◌-◌, ◌<◌, ◌≤◌, List, [], ◌∷◌, ◌++◌, reverse, length, Option, Some, None, Err, IfSome, option_to_list}
use Rattle.lx_base.specs.declared.limits.TheConstants.{SOURCE_LIMIT}
use Rattle.lx_base.specs.declared.settings.Options.{Options}
use Rattle.lx_base.specs.declared.faults.Stop.{Stop}
use Rattle.lx_base.specs.declared.faults.Stop.TheVariants as stop
use Rattle.lx_files.specs.declared.files.HeldFile.{HeldFile}
use Rattle.lx_split.specs.declared.expanding.WantedFile.{WantedFile}
use Rattle.lx_split.specs.declared.includes.IncludeBlock.{IncludeBlock}
use Rattle.lx_split.specs.declared.pieces.SourcePiece.{SourcePiece}
use Rattle.lx_split.specs.declared.walk.OpenFile.{OpenFile}
use Rattle.lx_split.specs.declared.walk.Walk.{Walk}
use Rattle.lx_split.specs.IncludeNames.{file_name_of, folder_of, names_for}
use Rattle.lx_split.specs.Includes.{Expansion, Met, and_then, behind, gives, include_expansion, met, pieces_expansion}

-- the files that are open, the innermost first
abbrev pub open_files : Walk → List OpenFile
open_files walk = reverse walk.stack.items

-- the folder of the innermost file
abbrev pub inner_folder : List OpenFile → List ℕ
inner_folder [] = []
inner_folder (file ∷ outer) = file.folder

-- how many pieces wait in open files
abbrev pub waiting : List OpenFile → ℕ
waiting [] = 0
waiting (file ∷ outer) = length file.rest.items + waiting outer

module _ (options : Options) (seen : List HeldFile) where
  -- what is still to be expanded of open files, the innermost first
  abbrev pub remaining : List OpenFile → Met → Expansion
  remaining [] files = gives files []
  remaining (file ∷ outer) files =
      and_then (pieces_expansion options seen (32 - length outer) file.folder files file.rest.items)
      (λ later. behind (option_to_list file.leave) (remaining outer later))

  -- the same from an include of the innermost file on, which was taken from it
  abbrev pub from_include : List OpenFile → Met → IncludeBlock → Expansion
  from_include [] files include = gives files []
  from_include (file ∷ outer) files include =
      and_then (include_expansion options seen (32 - length outer) file.folder files include) (remaining (file ∷ outer))

  -- the whole: the pieces so far, and what is still to be expanded, where files of these names were met
  abbrev pub whole_of : (names : List (List ℕ)) → Walk → Expansion
  whole_of names walk = behind walk.pieces (remaining (open_files walk) (met names walk.total))

  -- the same where an include was taken; without one nothing is left
  abbrev pub whole_from : (names : List (List ℕ)) → Walk → Option IncludeBlock → Expansion
  whole_from names walk None = gives (met names walk.total) walk.pieces
  whole_from names walk (Some include) = behind walk.pieces (from_include (open_files walk) (met names walk.total) include)

-- pieces were taken up to this include, or all
pub record Advances (before after : Walk) (next : Option IncludeBlock) : Type 0 where
  pub whole : (options : Options) (seen : List HeldFile) (names : List (List ℕ)) → whole_of options seen names before ≡ whole_from options seen names after next
  pub total : after.total ≡ before.total
  pub waiting : waiting (open_files after) + length (option_to_list next) ≤ waiting (open_files before)
  pub stack : length after.stack.items ≤ length before.stack.items
  pub inside : IfSome next (λ _. 0 < length after.stack.items)

-- a file of this name was opened: these are its pieces, and this one stands behind them, if one does
pub record Opens (before after : Walk) (name : List ℕ) (pieces : List SourcePiece) (leave : Option SourcePiece) : Type 0 where
  pub file : OpenFile
  pub stack : after.stack.items ≡ before.stack.items ++ file ∷ []
  pub folder : file.folder ≡ folder_of name
  pub waits : file.rest.items ≡ pieces
  pub leaves : file.leave ≡ leave
  pub before_it : after.pieces ≡ before.pieces
  pub total : after.total ≡ before.total

-- a file was entered, which is not too long and has no more pieces than bytes
pub record Enters (before after : Walk) (file : HeldFile) (pieces : List SourcePiece) (leave : Option SourcePiece) : Type 0 where
  pub opened : OpenFile
  pub stack : after.stack.items ≡ before.stack.items ++ opened ∷ []
  pub folder : opened.folder ≡ folder_of file.name
  pub waits : opened.rest.items ≡ pieces
  pub leaves : opened.leave ≡ leave
  pub before_it : after.pieces ≡ before.pieces
  pub total : after.total ≡ before.total + length file.bytes
  pub within : after.total ≤ SOURCE_LIMIT
  pub few : length pieces ≤ length file.bytes

-- an include of the innermost file was taken, and its file entered: one more file is met and open, and no more pieces wait than
-- it has bytes
pub record Takes (names names' : List (List ℕ)) (before after : Walk) : Type 0 where
  pub named : length names' ≡ length names + 1
  pub stack : length after.stack.items ≡ length before.stack.items + 1
  pub depth : length after.stack.items ≤ 33
  pub waiting : waiting (open_files after) + before.total ≤ waiting (open_files before) + after.total
  pub more : before.total ≤ after.total
  pub within : after.total ≤ SOURCE_LIMIT

-- no file is met
pub record IsNewWalk (walk : Walk) : Type 0 where
  pub pieces : walk.pieces ≡ []
  pub stack : walk.stack.items ≡ []
  pub total : walk.total ≡ 0

-- the main file was entered, and has no more pieces than bytes
pub record Starts (walk : Walk) : Type 0 where
  pub few : waiting (open_files walk) ≤ walk.total
  pub depth : length walk.stack.items ≡ 1
  pub within : walk.total ≤ SOURCE_LIMIT

-- a call that is to enter a file stops with the fault of the whole, where files of these names were met, or where memory runs out
abbrev pub StopsWhole : Expansion → (names : List (List ℕ)) → Stop → Type 0
StopsWhole whole names stop.Memory = Unit {0}
StopsWhole whole names (stop.Fault fault) = (whole.found ≡ Err fault) × (whole.met.names ≡ names)

-- what an include of the innermost file asks for, where it is not nested too deeply
pub record IsWanted (options : Options) (walk : Walk) (include : IncludeBlock) (wanted : WantedFile) : Type 0 where
  pub include_is : wanted.include ≡ include
  pub named : file_name_of include.body ≡ Some wanted.name
  pub looked_for : wanted.looked_for.items ≡ names_for options (inner_folder (open_files walk)) wanted.name
  pub depth : length walk.stack.items ≤ 32
