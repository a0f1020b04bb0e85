-- The first fault of a source.
use Rattle.std.specs.Prelude.{◌≡◌, ℕ, ◌⊎◌, List, Option, Some, None, IsSome, Ok, Err}
use Rattle.lx_base.specs.Message.{IsPlaced}
use Rattle.lx_base.specs.declared.faults.Fault.{Fault}
use Rattle.lx_base.specs.declared.faults.Stop.{Stop}
use Rattle.lx_base.specs.declared.faults.Stop.TheVariants as split_stop
use Rattle.lx_base.specs.declared.settings.Options.{Options}
use Rattle.lx_files.specs.declared.files.HeldFile.{HeldFile}
use Rattle.lx_rules.specs.Environments.{Environment, config_of, first_environment}
use Rattle.lx_split.specs.Includes.{AreFirstMet, expansion}
use Rattle.lx_split.specs.Pieces.{Split}
use Rattle.lx_split.specs.declared.expanding.ExpandStop.{ExpandStop}
use Rattle.lx_split.specs.declared.expanding.ExpandStop.TheVariants as stop
use Rattle.lx_split.specs.declared.pieces.SourcePiece.{SourcePiece}
use Rattle.lx_compile.specs.Facts.{directives_fault}
use Rattle.lx_compile.specs.Made.{AreMade, Setting}
use Rattle.lx_compile.specs.Parts.{AreParts, IsFaultAmong, IsScanningFault, switch_themselves}
use Rattle.lx_compile.specs.declared.made.Made.{Made}
use Rattle.lx_compile.specs.declared.parts.Part.{Part}

-- what holds for all pieces of the output of these parts, where files of these names were met
abbrev pub setting_of : Options → (names : List (List ℕ)) → List Part → Setting
setting_of options names parts = record { options = options; names = names; own_switch = switch_themselves parts }

-- behind all blocks, the fault of a scanner; or else all this is made, and has the fault of a directive or none
abbrev pub IsFaultOfParts : Options → (names : List (List ℕ)) → List Part → (last : Environment) → List Made → Option Fault → Type 0
IsFaultOfParts options names parts last made fault =
    (IsSome fault × IsScanningFault options parts fault)
    ⊎ (IsScanningFault options parts None × AreMade (setting_of options names parts) 1 0 parts made
    × (fault ≡ directives_fault (config_of last.settings).names made))

abbrev pub IsFaultBehind : Options → (names : List (List ℕ)) → List SourcePiece → List Made → Option Fault → Type 0
IsFaultBehind options names pieces made fault =
    (parts : List Part) × (last : Environment) × AreParts options first_environment pieces parts last
    × IsFaultOfParts options names parts last made fault

-- the fault of a block, or one behind all blocks, or none
abbrev pub IsFaultOfBlocks : Options → (names : List (List ℕ)) → List SourcePiece → List Made → Option Fault → Type 0
IsFaultOfBlocks options names pieces made None = IsFaultBehind options names pieces made None
IsFaultOfBlocks options names pieces made (Some fault) =
    IsFaultAmong options first_environment pieces fault ⊎ IsFaultBehind options names pieces made (Some fault)

-- the source has no pieces; or its blocks have a fault, or none
abbrev pub IsFaultOfPieces : Options → (names : List (List ℕ)) → Split → List Made → Option Fault → Type 0
IsFaultOfPieces options names (Err first) made fault = fault ≡ Some first
IsFaultOfPieces options names (Ok pieces) made fault = IsFaultOfBlocks options names pieces made fault

-- The first fault of a source over these files, or none, where this is made of it: its files cannot be cut into pieces, or an include cannot
-- be put in; or a block has a fault, of which the first one in the order of the pieces counts; or a scanner has too many kernels, or
-- covering words that are too long; or a directive has a fault. The last of these may go by how many registers the scanners use, so it is told by what is made.
abbrev pub IsFirstFault : Options → (seen : List HeldFile) → (main : List ℕ) → List Made → Option Fault → Type 0
IsFirstFault options seen main made fault =
    IsFaultOfPieces options (expansion options seen main).met.names (expansion options seen main).found made fault

-- where the source has blocks without a fault, and no scanner has one, this is made of it
abbrev pub AreMadeOf : Options → (seen : List HeldFile) → (main : List ℕ) → List Made → Type 0
AreMadeOf options seen main made =
    (pieces : List SourcePiece) (parts : List Part) (last : Environment) → (expansion options seen main).found ≡ Ok pieces
    → AreParts options first_environment pieces parts last → IsScanningFault options parts None
    → AreMade (setting_of options (expansion options seen main).met.names parts) 1 0 parts made

-- a call that is to compile pieces stops with their fault, or where memory runs out
abbrev pub StopsBehind : Options → (names : List (List ℕ)) → List SourcePiece → Stop → Type 0
StopsBehind options names pieces split_stop.Memory = Unit {0}
StopsBehind options names pieces (split_stop.Fault fault) = (made : List Made) × IsFaultOfBlocks options names pieces made (Some fault)

-- A call that is to compile a source stops with its first fault, where these are the names of the files met; or where a read failed, which
-- `CountRose` says, and these are the first of them; or where memory runs out.
abbrev pub StopsWith : Options → (seen : List HeldFile) → (main : List ℕ) → (CountRose : Type 0) → (names : List (List ℕ)) → ExpandStop → Type 0
StopsWith options seen main CountRose names stop.Memory = Unit {0}
StopsWith options seen main CountRose names (stop.Fault fault) =
    ((made : List Made) × IsFirstFault options seen main made (Some fault))
    × (names ≡ (expansion options seen main).met.names) × IsPlaced names fault
StopsWith options seen main CountRose names stop.ReadFailed = CountRose × AreFirstMet (expansion options seen main) names
