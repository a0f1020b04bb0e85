-- The first fault of a source stands in a file that was met.
use Rattle.std.proofs.Common.{◌≡◌, ℕ, zero, suc, ◌<◌, Bool, true, false, List, [], ◌∷◌, length, drop, take, Option, Some, None, Ok, Err, IfSome, refl, sym, ap, subst, inl, inr, ◌∙◌}
use Rattle.std.specs.Prelude.{All, ◌||◌, if◌then◌else◌}
use Rattle.std.specs.Option.{option_or}
use Rattle.std.proofs.lemmas.List.Elements.{All-head, All-tail}
use Rattle.lx_base.specs.Message.{HasFile, IsPlaced, place_of}
use Rattle.lx_base.specs.Names.{Spellings}
use Rattle.lx_base.specs.Places.{place_after}
use Rattle.lx_base.specs.declared.blocks.BlockKind.{BlockKind}
use Rattle.lx_base.specs.declared.faults.Fault.{Fault}
use Rattle.lx_base.specs.declared.faults.Fault.TheVariants.{BadValue}
use Rattle.lx_base.specs.declared.places.Pos.{Pos}
use Rattle.lx_base.specs.declared.settings.Options.{Options}
use Rattle.lx_ccode.specs.Bodies.{body_then}
use Rattle.lx_ccode.specs.declared.piece.Piece.{Piece}
use Rattle.lx_exprs.specs.FaultPlaces.{IsPlaceIn, StandsIn}
use Rattle.lx_files.specs.declared.files.HeldFile.{HeldFile}
use Rattle.lx_forms.proofs.FilePlaces.{place_after-file}
use Rattle.lx_parse.specs.Blocks.{place_of_next}
use Rattle.lx_rules.specs.Environments.{Environment, config_of, first_environment}
use Rattle.lx_rules.specs.Items.{first_state}
use Rattle.lx_rules.proofs.Blocks.FaultPlaces.{block_fault-place}
use Rattle.lx_rules.specs.declared.resolved.Scanner.{Scanner}
use Rattle.lx_split.specs.Expanded.{IsPieceWithin, IsBlockWithin}
use Rattle.lx_split.specs.Includes.{expansion}
use Rattle.lx_split.specs.Pieces.{Split}
use Rattle.lx_split.specs.declared.pieces.SourcePiece.{SourcePiece}
use Rattle.lx_split.specs.declared.pieces.SourcePiece.TheVariants as piece
use Rattle.lx_split.proofs.ExpandedPieces.{expansion-placed, expansion-sound}
use Rattle.lx_token.specs.Spans.{EachStands}
use Rattle.lx_token.specs.declared.list.Token.{Token}
use Rattle.lx_token.proofs.Walk.{fault_is_bad_token, tokens_stand}
use Rattle.lx_compile.specs.Blocks.{IsFaultOf, no_items, no_token, refused}
use Rattle.lx_compile.specs.Facts.{body_of, conditions_of, directive_fault, fault_among, has_wrong_strings, holds_opener, missing_fault, no_conditions_fault, no_scanner_fault, pieces_among, text_fault}
use Rattle.lx_compile.specs.FirstFault.{IsFaultOfParts, IsFaultOfPieces, IsFirstFault, setting_of}
use Rattle.lx_compile.specs.Made.{AreMade, Setting}
use Rattle.lx_compile.specs.Parts.{AreParts, IsFaultAmong, IsScanningFault}
use Rattle.lx_compile.specs.ScannerFaults.{IsFaultOfContent, IsFaultOfScanners}
use Rattle.lx_compile.specs.declared.made.Made.{Made}
use Rattle.lx_compile.specs.declared.made.Made.TheVariants as made
use Rattle.lx_compile.specs.declared.parts.Content.{Content}
use Rattle.lx_compile.specs.declared.parts.Content.TheVariants.{Asks, Scanners}
use Rattle.lx_compile.specs.declared.parts.Directive.{Directive}
use Rattle.lx_compile.specs.declared.parts.Directive.TheVariants as directive
use Rattle.lx_compile.specs.declared.parts.Part.{Part}
use Rattle.lx_compile.specs.declared.parts.Part.TheVariants.{Outside, Block}
use Rattle.lx_compile.proofs.TargetPlaces.{IsKeptMet, IsMet, IsTargetFault-placed, first_met, met_behind}

-- what comes behind some tokens of a body stands in its file
next-file : (body : List ℕ) (start : Pos) (tokens : List Token) (count : ℕ) → EachStands body start tokens
    → (place_of_next start body (drop count tokens)).file ≡ start.file
next-file body start [] zero stand = place_after-file start body
next-file body start [] (suc count) stand = place_after-file start body
next-file body start (token ∷ tokens) zero stand =
    ap (λ (p : Pos). p.file) stand.0.place ∙ place_after-file start (take token.from body)
next-file body start (token ∷ tokens) (suc count) stand = next-file body start tokens count stand.1

module _ (names : List (List ℕ)) where
  -- a place of a file that was met
  same-met : (at place : Pos) → at.file ≡ place.file → IsMet names place → IsMet names at
  same-met at place same met = subst (λ (file : ℕ). file < length names) (sym same) met

  stands-placed : (at : Pos) (fault : Fault) → IsMet names at → StandsIn at.file fault → IsPlaced names fault
  stands-placed at fault met stands = by (place_of fault) stands
    where
      by : (found : Option Pos) → IsPlaceIn at.file found → HasFile names found
      by None is = absurd is
      by (Some place) is = same-met place at is met

  -- ---- blocks

  module _ (options : Options) where
    -- the fault of a block
    block-placed : (environment : Environment) (kind : BlockKind) (body : List ℕ) (at start : Pos) (end_line : ℕ) (fault : Fault)
        → IsFaultOf options environment kind body at start fault → IsBlockWithin (length names) body at start end_line
        → IsKeptMet names environment.kept → IsPlaced names fault
    block-placed environment kind body at start end_line fault (no_token has none) sound kept =
        let bad = fault_is_bad_token body start fault none in
        subst (IsPlaced names) (sym bad.fault_is)
        (same-met (place_after start (take bad.offset body)) start (place_after-file start (take bad.offset body)) sound.start.in_file)
    block-placed environment kind body at start end_line fault (no_items tokens has are syntax) sound kept =
        let stand = tokens_stand body start tokens are in
        subst (IsPlaced names) (sym syntax.fault_is)
        (same-met (place_of_next start body (drop syntax.count tokens)) start (next-file body start tokens syntax.count stand.each_stands) sound.start.in_file)
    block-placed environment kind body at start end_line fault (refused tokens items has read found) sound kept =
        elim (block_fault-place options at start environment kind has body tokens items fault sound.same_file read.tokens_are read.items_are found) [
          | inl stands ↦ stands-placed at fault sound.opener.in_file stands
          | inr target ↦ IsTargetFault-placed names (first_state kind environment).rules fault (first_met names kind has environment kept) target
        ]

    among-placed : (environment : Environment) (pieces : List SourcePiece) (fault : Fault) → IsFaultAmong options environment pieces fault
        → All (IsPieceWithin (length names)) pieces → IsKeptMet names environment.kept → IsPlaced names fault
    among-placed environment [] fault is sound kept = absurd is
    among-placed environment (piece.Outside text ∷ pieces) fault is sound kept =
        among-placed environment pieces fault is (All-tail (IsPieceWithin (length names)) (piece.Outside text) pieces sound) kept
    among-placed environment (piece.Block kind body at start end_line ∷ pieces) fault (inl is) sound kept =
        block-placed environment kind body at start end_line fault is
        (All-head (IsPieceWithin (length names)) (piece.Block kind body at start end_line) pieces sound) kept
    among-placed environment (piece.Block kind body at start end_line ∷ pieces) fault (inr is) sound kept =
        let block = piece.Block kind body at start end_line in
        let here = All-head (IsPieceWithin (length names)) block pieces sound in
        among-placed is.0 pieces fault is.3 (All-tail (IsPieceWithin (length names)) block pieces sound)
        (met_behind names options environment kind body at start is.0 is.1 is.2 here.start.in_file kept)

  -- ---- parts

  -- the openers of blocks stand in files that were met
  abbrev ArePartsMet : List Part → Type 0
  ArePartsMet [] = Unit {0}
  ArePartsMet (Outside text ∷ parts) = ArePartsMet parts
  ArePartsMet (Block at line content ∷ parts) = IsMet names at × ArePartsMet parts

  parts-met : (options : Options) (environment : Environment) (pieces : List SourcePiece) (parts : List Part) (last : Environment)
      → AreParts options environment pieces parts last → All (IsPieceWithin (length names)) pieces → ArePartsMet parts
  parts-met options environment [] [] last are sound = tt
  parts-met options environment [] (part ∷ parts) last are sound = absurd are
  parts-met options environment (piece.Outside text ∷ pieces) [] last are sound = absurd are
  parts-met options environment (piece.Outside text ∷ pieces) (Block place line content ∷ parts) last are sound = absurd are
  parts-met options environment (piece.Outside text ∷ pieces) (Outside other ∷ parts) last are sound =
      parts-met options environment pieces parts last are.1 (All-tail (IsPieceWithin (length names)) (piece.Outside text) pieces sound)
  parts-met options environment (piece.Block kind body at start end_line ∷ pieces) [] last are sound = absurd are
  parts-met options environment (piece.Block kind body at start end_line ∷ pieces) (Outside other ∷ parts) last are sound = absurd are
  parts-met options environment (piece.Block kind body at start end_line ∷ pieces) (Block place line content ∷ parts) last are sound =
      let block = piece.Block kind body at start end_line in
      let here = All-head (IsPieceWithin (length names)) block pieces sound in (
        same-met place at (ap (λ (p : Pos). p.file) are.0) here.opener.in_file,
        parts-met options are.2.0 pieces parts last are.2.2 (All-tail (IsPieceWithin (length names)) block pieces sound),
      )

  -- the fault of a scanner
  scanners-placed : (options : Options) (at : Pos) (scanners : List Scanner) (fault : Fault) → IsFaultOfScanners options at scanners fault → IsMet names at
      → IsPlaced names fault
  scanners-placed options at [] fault is met = absurd is
  scanners-placed options at (scanner ∷ scanners) fault (inl (inl large)) met = subst (IsPlaced names) (sym large.1) met
  scanners-placed options at (scanner ∷ scanners) fault (inl (inr (small, (sum, long, is)))) met = subst (IsPlaced names) (sym is) met
  scanners-placed options at (scanner ∷ scanners) fault (inr is) met = scanners-placed options at scanners fault is.1 met

  content-placed : (options : Options) (at : Pos) (content : Content) (fault : Fault) → IsFaultOfContent options at content fault → IsMet names at
      → IsPlaced names fault
  content-placed options at (Scanners resolved) fault is met = scanners-placed options at resolved.scanners fault is met
  content-placed options at (Asks directive) fault is met = absurd is

  scanning-placed : (options : Options) (parts : List Part) (fault : Fault) → IsScanningFault options parts (Some fault) → ArePartsMet parts
      → IsPlaced names fault
  scanning-placed options [] fault is met = absurd cc
  scanning-placed options (Outside text ∷ parts) fault is met = scanning-placed options parts fault is met
  scanning-placed options (Block at line content ∷ parts) fault (inl (found, is, same)) met =
      let here : found ≡ fault = cc in subst (IsPlaced names) here (content-placed options at content found is met.0)
  scanning-placed options (Block at line content ∷ parts) fault (inr is) met = scanning-placed options parts fault is.1 met.1

  -- ---- directives

  -- so do the openers of directives
  abbrev AreMadeMet : List Made → Type 0
  AreMadeMet [] = Unit {0}
  AreMadeMet (made.Outside text ∷ all) = AreMadeMet all
  AreMadeMet (made.Scanners piece checks warnings cover groups ∷ all) = AreMadeMet all
  AreMadeMet (made.Bare at line directive ∷ all) = IsMet names at × AreMadeMet all

  made-met : (setting : Setting) (number first_state : ℕ) (parts : List Part) (all : List Made) → AreMade setting number first_state parts all
      → ArePartsMet parts → AreMadeMet all
  made-met setting number first_state [] [] are met = tt
  made-met setting number first_state [] (one ∷ all) are met = absurd are
  made-met setting number first_state (Outside text ∷ parts) [] are met = absurd are
  made-met setting number first_state (Outside text ∷ parts) (made.Outside other ∷ all) are met = made-met setting number first_state parts all are.1 met
  made-met setting number first_state (Outside text ∷ parts) (made.Scanners piece checks warnings cover groups ∷ all) are met = absurd are
  made-met setting number first_state (Outside text ∷ parts) (made.Bare at line directive ∷ all) are met = absurd are
  made-met setting number first_state (Block at line content ∷ parts) [] are met = absurd are
  made-met setting number first_state (Block at line (Scanners resolved) ∷ parts) (made.Outside other ∷ all) are met = absurd are.1
  made-met setting number first_state (Block at line (Scanners resolved) ∷ parts) (made.Scanners piece checks warnings cover groups ∷ all) are met =
      made-met setting (suc number) are.0 parts all are.2 met.1
  made-met setting number first_state (Block at line (Scanners resolved) ∷ parts) (made.Bare place mark directive ∷ all) are met = absurd are.1
  made-met setting number first_state (Block at line (Asks directive) ∷ parts) (made.Outside other ∷ all) are met = absurd are.1
  made-met setting number first_state (Block at line (Asks directive) ∷ parts) (made.Scanners piece checks warnings cover groups ∷ all) are met = absurd are.1
  made-met setting number first_state (Block at line (Asks directive) ∷ parts) (made.Bare place mark other ∷ all) are met =
      (same-met place at (ap (λ (p : Pos). p.file) are.1.0) met.0, made-met setting (suc number) are.0 parts all are.2 met.1)

  -- a fault that is found, if one is
  abbrev IsFoundPlaced : Option Fault → Type 0
  IsFoundPlaced found = IfSome found (IsPlaced names)

  option_or-placed : (first second : Option Fault) → IsFoundPlaced first → IsFoundPlaced second → IsFoundPlaced (option_or first second)
  option_or-placed None second one two = two
  option_or-placed (Some fault) second one two = one

  module _ (spellings : Spellings) (all : List Made) where
    no_conditions-placed : (at : Pos) (conds : List (List ℕ)) → IsMet names at → IsFoundPlaced (no_conditions_fault at conds)
    no_conditions-placed at [] met = met
    no_conditions-placed at (cond ∷ conds) met = tt

    no_scanner-placed : (at : Pos) (pieces : List Piece) → IsMet names at → IsFoundPlaced (no_scanner_fault at pieces)
    no_scanner-placed at [] met = met
    no_scanner-placed at (piece ∷ pieces) met = tt

    missing-placed : (pieces : List Piece) (at : Pos) (directive : Directive) → IsMet names at → IsFoundPlaced (missing_fault pieces at directive)
    missing-placed pieces at directive.Types met = no_conditions-placed at (conditions_of pieces) met
    missing-placed pieces at directive.GetState met = no_scanner-placed at pieces met
    missing-placed pieces at other met = tt

    text-placed : (at : Pos) (directive : Directive) → IsMet names at → IsFoundPlaced (text_fault spellings all at directive)
    text-placed at directive met = by (has_wrong_strings directive || holds_opener (body_then spellings (body_of all directive) []))
      where
        by : (is_wrong : Bool) → IsFoundPlaced (if is_wrong then Some (BadValue at) else None)
        by true = met
        by false = tt

    directives-placed : (made : List Made) → AreMadeMet made → IsFoundPlaced (fault_among spellings all made)
    directives-placed [] met = tt
    directives-placed (made.Outside text ∷ made) met = directives-placed made met
    directives-placed (made.Scanners piece checks warnings cover groups ∷ made) met = directives-placed made met
    directives-placed (made.Bare at line directive ∷ made) met =
        option_or-placed (directive_fault spellings all at directive) (fault_among spellings all made)
        (option_or-placed (missing_fault (pieces_among all) at directive) (text_fault spellings all at directive)
        (missing-placed (pieces_among all) at directive met.0) (text-placed at directive met.0))
        (directives-placed made met.1)

  -- ---- sources

  module _ (options : Options) (made : List Made) where
    end-placed : (parts : List Part) (last : Environment) (fault : Fault) → ArePartsMet parts
        → IsFaultOfParts options names parts last made (Some fault) → IsPlaced names fault
    end-placed parts last fault met (inl is) = scanning-placed options parts fault is.1 met
    end-placed parts last fault met (inr is) =
        subst IsFoundPlaced (sym is.2) (directives-placed (config_of last.settings).names made made (made-met (setting_of options names parts) 1 0 parts made is.1 met))

    pieces-placed : (pieces : List SourcePiece) (fault : Fault) → All (IsPieceWithin (length names)) pieces
        → IsFaultOfPieces options names (Ok pieces) made (Some fault) → IsPlaced names fault
    pieces-placed pieces fault sound (inl is) = among-placed options first_environment pieces fault is sound tt
    pieces-placed pieces fault sound (inr is) =
        end-placed is.0 is.1 fault (parts-met options first_environment pieces is.0 is.1 is.2 sound) is.3

-- the first fault of a source
pub IsFirstFault-placed : (options : Options) (seen : List HeldFile) (main : List ℕ) (made : List Made) (fault : Fault)
    → IsFirstFault options seen main made (Some fault) → IsPlaced (expansion options seen main).met.names fault
IsFirstFault-placed options seen main made fault is = by (expansion options seen main).found refl is
  where
    by : (split : Split) → (expansion options seen main).found ≡ split
        → IsFaultOfPieces options (expansion options seen main).met.names split made (Some fault) → IsPlaced (expansion options seen main).met.names fault
    by (Err first) found is = let same : first ≡ fault = cc in expansion-placed options seen main fault (found ∙ ap (λ (f : Fault). Err f) same)
    by (Ok pieces) found is =
        pieces-placed (expansion options seen main).met.names options made pieces fault (expansion-sound options seen main pieces found).each is
