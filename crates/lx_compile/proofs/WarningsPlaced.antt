-- The warnings that are told stand in files that were met.
use Rattle.std.proofs.Common.{ℕ, zero, suc, Bool, true, false, List, [], ◌∷◌, ◌++◌, length, map, Option, Some, None, IfSome, sym, subst}
use Rattle.std.specs.Prelude.{All, slice_get, if◌then◌else◌}
use Rattle.std.specs.List.{AllByRecursion}
use Rattle.std.proofs.lemmas.List.Elements.{All-from_recursion, All-head, All-tail}
use Rattle.lx_base.specs.declared.places.Pos.{Pos}
use Rattle.lx_base.specs.declared.settings.Options.{Options}
use Rattle.lx_files.specs.declared.files.HeldFile.{HeldFile}
use Rattle.lx_rules.specs.Environments.{Environment, first_environment}
use Rattle.lx_rules.specs.Numbered.{numbered_act}
use Rattle.lx_rules.specs.declared.resolved.Act.{Act}
use Rattle.lx_rules.specs.declared.resolved.Resolved.{Resolved}
use Rattle.lx_rules.specs.declared.resolved.Scanner.{Scanner}
use Rattle.lx_split.specs.Expanded.{IsPieceWithin}
use Rattle.lx_split.specs.Includes.{expansion}
use Rattle.lx_split.specs.declared.pieces.SourcePiece.{SourcePiece}
use Rattle.lx_split.specs.declared.pieces.SourcePiece.TheVariants as piece
use Rattle.lx_split.proofs.ExpandedPieces.{expansion-sound}
use Rattle.lx_warn.specs.declared.lists.Warning.{Warning}
use Rattle.lx_warn.specs.declared.lists.Warning.TheVariants.{Unreachable, Empty, Undefined}
use Rattle.lx_compile.specs.FirstFault.{setting_of}
use Rattle.lx_compile.specs.Made.{AreMade, Setting}
use Rattle.lx_compile.specs.Options.{tells_warnings}
use Rattle.lx_compile.specs.Output.{IsOutput}
use Rattle.lx_compile.specs.Parts.{AreParts}
use Rattle.lx_compile.specs.Warnings.{AreWarned, AreWarnedWhere, AreWarningsOf, IsPlacedWarning, act_place, placed, told_warnings, warning_place, warnings_of}
use Rattle.lx_compile.specs.declared.made.Made.{Made}
use Rattle.lx_compile.specs.declared.made.Made.TheVariants as made
use Rattle.lx_compile.specs.declared.parts.Content.TheVariants.{Asks, Scanners}
use Rattle.lx_compile.specs.declared.parts.Part.{Part}
use Rattle.lx_compile.specs.declared.parts.Part.TheVariants.{Outside, Block}
use Rattle.lx_compile.specs.declared.warned.PlacedWarning.{PlacedWarning}
use Rattle.lx_compile.proofs.TargetPlaces.{AreActsMet, HasActsMet, IsKeptMet, IsMet, acts_met, met_behind}

module _ (names : List (List ℕ)) where
  -- ---- parts

  -- the openers of blocks stand in files that were met, and the actions of what they give
  abbrev ArePartsMet : List Part → Type 0
  ArePartsMet [] = Unit {0}
  ArePartsMet (Outside text ∷ parts) = ArePartsMet parts
  ArePartsMet (Block at line content ∷ parts) = IsMet names at × HasActsMet names content × ArePartsMet parts

  parts-met : (options : Options) (environment : Environment) (pieces : List SourcePiece) (parts : List Part) (last : Environment)
      → AreParts options environment pieces parts last → All (IsPieceWithin (length names)) pieces → IsKeptMet names environment.kept
      → ArePartsMet parts
  parts-met options environment [] [] last are sound kept = tt
  parts-met options environment [] (part ∷ parts) last are sound kept = absurd are
  parts-met options environment (piece.Outside text ∷ pieces) [] last are sound kept = absurd are
  parts-met options environment (piece.Outside text ∷ pieces) (Block place line content ∷ parts) last are sound kept = absurd are
  parts-met options environment (piece.Outside text ∷ pieces) (Outside other ∷ parts) last are sound kept =
      parts-met options environment pieces parts last are.1 (All-tail (IsPieceWithin (length names)) (piece.Outside text) pieces sound) kept
  parts-met options environment (piece.Block kind body at start end_line ∷ pieces) [] last are sound kept = absurd are
  parts-met options environment (piece.Block kind body at start end_line ∷ pieces) (Outside other ∷ parts) last are sound kept = absurd are
  parts-met options environment (piece.Block kind body at start end_line ∷ pieces) (Block place line content ∷ parts) last are sound kept =
      let block = piece.Block kind body at start end_line in
      let here = All-head (IsPieceWithin (length names)) block pieces sound in (
        subst (IsMet names) (sym are.0) here.opener.in_file,
        acts_met names options environment kind body at start are.2.0 content are.2.1 here.start.in_file kept,
        parts-met options are.2.0 pieces parts last are.2.2 (All-tail (IsPieceWithin (length names)) block pieces sound)
            (met_behind names options environment kind body at start are.2.0 content are.2.1 here.start.in_file kept),
      )

  -- ---- warnings

  abbrev ArePlaced : List PlacedWarning → Type 0
  ArePlaced warnings = AllByRecursion (IsPlacedWarning names) warnings

  placed-append : (warnings others : List PlacedWarning) → ArePlaced warnings → ArePlaced others → ArePlaced (warnings ++ others)
  placed-append [] others are more = more
  placed-append (one ∷ warnings) others are more = (are.0, placed-append warnings others are.1 more)

  acts-at : (acts : List Act) (place : ℕ) → AreActsMet names acts → IfSome (slice_get acts place) (λ (act : Act). IsMet names act.at)
  acts-at [] place met = tt
  acts-at (act ∷ acts) zero met = met.0
  acts-at (act ∷ acts) (suc place) met = acts-at acts place met.1

  numbered-met : (acts : List Act) (number : ℕ) → AreActsMet names acts → IfSome (numbered_act acts number) (λ (act : Act). IsMet names act.at)
  numbered-met acts zero met = tt
  numbered-met acts (suc place) met = acts-at acts place met

  act_place-met : (at : Pos) (act : Option Act) → IsMet names at → IfSome act (λ (found : Act). IsMet names found.at) → IsMet names (act_place at act)
  act_place-met at None met found = met
  act_place-met at (Some act) met found = found

  warning_place-met : (at : Pos) (acts : List Act) (warning : Warning) → IsMet names at → AreActsMet names acts → IsMet names (warning_place at acts warning)
  warning_place-met at acts (Unreachable number) met acted = act_place-met at (numbered_act acts number) met (numbered-met acts number acted)
  warning_place-met at acts (Empty number) met acted = act_place-met at (numbered_act acts number) met (numbered-met acts number acted)
  warning_place-met at acts (Undefined word) met acted = met

  mapped-placed : (at : Pos) (acts : List Act) (cond : Option (List ℕ)) (own : List Warning) → IsMet names at → AreActsMet names acts
      → ArePlaced (map (placed at acts cond) own)
  mapped-placed at acts cond [] met acted = tt
  mapped-placed at acts cond (warning ∷ own) met acted = (warning_place-met at acts warning met acted, mapped-placed at acts cond own met acted)

  scanners-placed : (options : Options) (at : Pos) (acts : List Act) (scanners : List Scanner) (warnings : List PlacedWarning)
      → AreWarningsOf options at acts scanners warnings → IsMet names at → AreActsMet names acts → ArePlaced warnings
  scanners-placed options at acts [] warnings are met acted = subst ArePlaced (sym are) tt
  scanners-placed options at acts (scanner ∷ scanners) warnings are met acted =
      subst ArePlaced (sym are.4)
      (placed-append (map (placed at acts scanner.cond) are.0) are.1 (mapped-placed at acts scanner.cond are.0 met acted)
      (scanners-placed options at acts scanners are.1 are.3 met acted))

  where-placed : (asked : Bool) (options : Options) (at : Pos) (acts : List Act) (scanners : List Scanner) (warnings : List PlacedWarning)
      → AreWarnedWhere asked options at acts scanners warnings → IsMet names at → AreActsMet names acts → ArePlaced warnings
  where-placed true options at acts scanners warnings are met acted = scanners-placed options at acts scanners warnings are met acted
  where-placed false options at acts scanners warnings are met acted = subst ArePlaced (sym are) tt

  block-placed : (options : Options) (at : Pos) (resolved : Resolved) (warnings : List PlacedWarning) → AreWarned options at resolved warnings
      → IsMet names at → AreActsMet names resolved.acts → ArePlaced warnings
  block-placed options at resolved warnings are met acted =
      where-placed (tells_warnings options) options at resolved.acts resolved.scanners warnings are met acted

  -- ---- what is made

  made-placed : (setting : Setting) (number first_state : ℕ) (parts : List Part) (all : List Made) → AreMade setting number first_state parts all
      → ArePartsMet parts → ArePlaced (warnings_of all)
  made-placed setting number first_state [] [] are met = tt
  made-placed setting number first_state [] (one ∷ all) are met = absurd are
  made-placed setting number first_state (Outside text ∷ parts) [] are met = absurd are
  made-placed setting number first_state (Outside text ∷ parts) (made.Outside other ∷ all) are met =
      made-placed setting number first_state parts all are.1 met
  made-placed setting number first_state (Outside text ∷ parts) (made.Scanners piece checks warnings cover groups ∷ all) are met = absurd are
  made-placed setting number first_state (Outside text ∷ parts) (made.Bare at line directive ∷ all) are met = absurd are
  made-placed setting number first_state (Block at line content ∷ parts) [] are met = absurd are
  made-placed setting number first_state (Block at line (Scanners resolved) ∷ parts) (made.Outside other ∷ all) are met = absurd are.1
  made-placed setting number first_state (Block at line (Scanners resolved) ∷ parts) (made.Scanners piece checks warnings cover groups ∷ all) are met =
      placed-append warnings (warnings_of all) (block-placed setting.options at resolved warnings are.1.1 met.0 met.1)
      (made-placed setting (suc number) are.0 parts all are.2 met.2)
  made-placed setting number first_state (Block at line (Scanners resolved) ∷ parts) (made.Bare place mark directive ∷ all) are met = absurd are.1
  made-placed setting number first_state (Block at line (Asks directive) ∷ parts) (made.Outside other ∷ all) are met = absurd are.1
  made-placed setting number first_state (Block at line (Asks directive) ∷ parts) (made.Scanners piece checks warnings cover groups ∷ all) are met = absurd are.1
  made-placed setting number first_state (Block at line (Asks directive) ∷ parts) (made.Bare place mark other ∷ all) are met =
      made-placed setting (suc number) are.0 parts all are.2 met.2

  where_asked : (asked : Bool) (warnings : List PlacedWarning) → ArePlaced warnings → ArePlaced (if asked then warnings else [])
  where_asked true warnings are = are
  where_asked false warnings are = tt

-- those of a source
pub told-placed : (options : Options) (seen : List HeldFile) (main output : List ℕ) (made : List Made) → IsOutput options seen main made output
    → All (IsPlacedWarning (expansion options seen main).met.names) (told_warnings options made)
told-placed options seen main output made is =
    let names : List (List ℕ) = (expansion options seen main).met.names in
    let sound = (expansion-sound options seen main is.pieces is.pieces_are).each in
    let met = parts-met names options first_environment is.pieces is.is.parts is.is.last is.is.parts_are sound tt in
    All-from_recursion (IsPlacedWarning names) (told_warnings options made)
    (where_asked names (tells_warnings options) (warnings_of made)
    (made-placed names (setting_of options names is.is.parts) 1 0 is.is.parts made is.is.made_are met))
