-- What the pieces of a source give, behind all its blocks.
use Rattle.std.proofs.Common.{◌≡◌, ℕ, List, [], Option, Some, None, inl, inr, refl, sym, subst}
use Rattle.std.specs.Prelude.{All}
use Rattle.std.proofs.lemmas.List.Elements.{All-weaker}
use Rattle.lx_base.specs.Message.{IsPlaced}
use Rattle.lx_base.specs.declared.faults.Fault.{Fault}
use Rattle.lx_base.specs.declared.faults.Stop.{Stop}
use Rattle.lx_base.specs.declared.faults.Stop.TheVariants as split_stop
use Rattle.lx_base.specs.declared.settings.Options.{Options}
use Rattle.lx_files.specs.declared.files.HeldFile.{HeldFile}
use Rattle.lx_rules.specs.Environments.{Environment, config_of, first_environment}
use Rattle.lx_split.specs.Expanded.{AreExpanded, IsPieceWithin}
use Rattle.lx_split.specs.Includes.{Expands, Expansion, StopsExpansion, expand_stop, expansion}
use Rattle.lx_split.specs.Pieces.{Split}
use Rattle.lx_split.specs.declared.expanding.ExpandStop.{ExpandStop}
use Rattle.lx_split.specs.declared.expanding.ExpandStop.TheVariants as stop
use Rattle.lx_split.specs.declared.pieces.SourcePiece.{SourcePiece}
use Rattle.lx_split.specs.declared.pieces.SourcePiece.TheVariants as piece
use Rattle.lx_compile.specs.Emittable.{IsNearPiece}
use Rattle.lx_compile.specs.Facts.{directives_fault}
use Rattle.lx_compile.specs.FirstFault.{IsFaultOfBlocks, IsFaultOfPieces, IsFirstFault, StopsBehind, StopsWith, setting_of}
use Rattle.lx_compile.specs.Made.{AreMade}
use Rattle.lx_compile.specs.Options.{out_name}
use Rattle.lx_compile.specs.Output.{IsGiven, IsGivenOf, IsOutput, IsOutputOf, given_text}
use Rattle.lx_compile.specs.Parts.{AreParts, IsScanningFault, StopsAmong, StopsByScanners}
use Rattle.lx_compile.specs.Writing.{StopsByDirectives, output_text}
use Rattle.lx_compile.specs.declared.made.Made.{Made}
use Rattle.lx_compile.specs.declared.parts.Part.{Part}
use Rattle.lx_compile.proofs.FaultsPlaced.{IsFirstFault-placed}

-- ---- behind all blocks

module _ (options : Options) (names : List (List ℕ)) (pieces : List SourcePiece) where
  pub StopsBehind-blocks : (stopped : Stop) → StopsAmong options first_environment pieces stopped → StopsBehind options names pieces stopped
  StopsBehind-blocks split_stop.Memory stops = tt
  StopsBehind-blocks (split_stop.Fault fault) stops = ([], inl stops)

  module _ (parts : List Part) (last : Environment) (are : AreParts options first_environment pieces parts last) where
    pub StopsBehind-scanners : (stopped : Stop) → StopsByScanners options parts stopped → StopsBehind options names pieces stopped
    StopsBehind-scanners split_stop.Memory stops = tt
    StopsBehind-scanners (split_stop.Fault fault) stops = ([], inr (parts, last, are, inl (refl, stops)))

    module _ (none : IsScanningFault options parts None) (made : List Made) (is : AreMade (setting_of options names parts) 1 0 parts made) where
      pub StopsBehind-directives : (stopped : Stop) → StopsByDirectives (config_of last.settings).names made stopped
          → StopsBehind options names pieces stopped
      StopsBehind-directives split_stop.Memory stops = tt
      StopsBehind-directives (split_stop.Fault fault) stops = (made, inr (parts, last, are, inr (none, is, sym stops)))

      pub IsGivenOf-parts : (output given : List ℕ) → output ≡ output_text (config_of last.settings).names (out_name options) made
          → directives_fault (config_of last.settings).names made ≡ None → given ≡ given_text options made output
          → IsFaultOfBlocks options names pieces made None × IsGivenOf options names pieces made given
      IsGivenOf-parts output given text no_fault given_is = (
        (parts, last, are, inr (none, is, sym no_fault)),
        (output, record { parts = parts; last = last; parts_are = are; made_are = is; no_fault = no_fault; text = text }, given_is),
      )

-- ---- over files

-- a block of a source with its includes put in is near
IsNearPiece-sound : (file_count : ℕ) (one : SourcePiece) → IsPieceWithin file_count one → IsNearPiece one
IsNearPiece-sound file_count (piece.Outside text) sound = tt
IsNearPiece-sound file_count (piece.Block kind body at start end_line) sound =
    record { size = sound.size; line = sound.start.line; col = sound.start.col }

pub EachIsNear-sound : (file_count : ℕ) (pieces : List SourcePiece) → AreExpanded file_count pieces → All IsNearPiece pieces
EachIsNear-sound file_count pieces sound = All-weaker (IsPieceWithin file_count) IsNearPiece (IsNearPiece-sound file_count) pieces sound.each

-- the fault of the pieces is that of the expansion which gives them
IsFaultOfPieces-expands : (options : Options) (whole : Expansion) (names : List (List ℕ)) (pieces : List SourcePiece) (made : List Made) (fault : Option Fault)
    → Expands whole names pieces → IsFaultOfBlocks options names pieces made fault → IsFaultOfPieces options whole.met.names whole.found made fault
IsFaultOfPieces-expands options whole names pieces made fault expands is =
    subst (λ (found : Split). IsFaultOfPieces options whole.met.names found made fault) (sym expands.0)
    (subst (λ (met : List (List ℕ)). IsFaultOfBlocks options met pieces made fault) (sym expands.1) is)

module _ (options : Options) (seen : List HeldFile) (main : List ℕ) (names : List (List ℕ)) where
  abbrev whole : Expansion
  whole = expansion options seen main

  -- a fault that is the first one stops the call
  StopsWith-first : (CountRose : Type 0) (made : List Made) (fault : Fault) → whole.met.names ≡ names → IsFirstFault options seen main made (Some fault)
      → StopsWith options seen main CountRose names (stop.Fault fault)
  StopsWith-first CountRose made fault same is =
      ((made, is), sym same, subst (λ (met : List (List ℕ)). IsPlaced met fault) same (IsFirstFault-placed options seen main made fault is))

  pub StopsWith-expansion : (CountRose : Type 0) (stopped : ExpandStop) → StopsExpansion whole CountRose names stopped
      → StopsWith options seen main CountRose names stopped
  StopsWith-expansion CountRose stop.Memory stops = tt
  StopsWith-expansion CountRose (stop.Fault fault) stops =
      StopsWith-first CountRose [] fault stops.1
      (subst (λ (found : Split). IsFaultOfPieces options whole.met.names found [] (Some fault)) (sym stops.0) refl)
  StopsWith-expansion CountRose stop.ReadFailed stops = stops

  module _ (pieces : List SourcePiece) (expands : Expands whole names pieces) where
    pub StopsWith-behind : (CountRose : Type 0) (stopped : Stop) → StopsBehind options names pieces stopped
        → StopsWith options seen main CountRose names (expand_stop stopped)
    StopsWith-behind CountRose split_stop.Memory stops = tt
    StopsWith-behind CountRose (split_stop.Fault fault) stops =
        StopsWith-first CountRose stops.0 fault expands.1
        (IsFaultOfPieces-expands options whole names pieces stops.0 (Some fault) expands stops.1)

    module _ (made : List Made) where
      pub IsFirstFault-none : IsFaultOfBlocks options names pieces made None → IsFirstFault options seen main made None
      IsFirstFault-none is = IsFaultOfPieces-expands options whole names pieces made None expands is

      IsOutput-of : (output : List ℕ) → IsOutputOf options names pieces made output → IsOutput options seen main made output
      IsOutput-of output is = record {
        pieces = pieces;
        pieces_are = expands.0;
        is = subst (λ (met : List (List ℕ)). IsOutputOf options met pieces made output) (sym expands.1) is;
      }

      pub IsGiven-of : (given : List ℕ) → IsGivenOf options names pieces made given → IsGiven options seen main made given
      IsGiven-of given (output, is, given_is) = (output, IsOutput-of output is, given_is)
