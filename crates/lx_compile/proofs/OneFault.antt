-- A source has one first fault, or none.
use Rattle.std.proofs.Common.{◌≡◌, ℕ, List, [], ◌∷◌, Option, Some, None, IsSome, Ok, Err, refl, sym, ap, subst, inl, inr, ◌∙◌}
use Rattle.lx_base.specs.declared.faults.Fault.{Fault}
use Rattle.lx_base.specs.declared.places.Pos.{Pos}
use Rattle.lx_base.specs.declared.settings.Options.{Options}
use Rattle.lx_files.specs.declared.files.HeldFile.{HeldFile}
use Rattle.lx_rules.specs.Environments.{Environment, config_of, first_environment}
use Rattle.lx_split.specs.Includes.{expansion}
use Rattle.lx_split.specs.Pieces.{Split}
use Rattle.lx_split.specs.declared.pieces.SourcePiece.{SourcePiece}
use Rattle.lx_split.specs.declared.pieces.SourcePiece.TheVariants as piece
use Rattle.lx_compile.specs.Facts.{directives_fault}
use Rattle.lx_compile.specs.FirstFault.{IsFaultBehind, IsFaultOfBlocks, IsFaultOfParts, IsFaultOfPieces, IsFirstFault}
use Rattle.lx_compile.specs.Parts.{AreParts, IsFaultAmong, IsScanningFault}
use Rattle.lx_compile.specs.ScannerFaults.{IsFaultOfContent}
use Rattle.lx_compile.specs.declared.made.Made.{Made}
use Rattle.lx_compile.specs.declared.parts.Part.{Part}
use Rattle.lx_compile.specs.declared.parts.Part.TheVariants.{Outside, Block}
use Rattle.lx_compile.proofs.OneBlock.{GiveAlike, alike-turned, block-one, block_or_not, fault-one}
use Rattle.lx_compile.proofs.OneScan.{content-one, content_or_not}

-- ---- parts

-- blocks stand at the same places, and what they give is alike
abbrev ArePartsAlike : List Part → List Part → Type 0
ArePartsAlike [] [] = Unit {0}
ArePartsAlike (Outside text ∷ parts) (Outside other ∷ others) = ArePartsAlike parts others
ArePartsAlike (Block at line content ∷ parts) (Block place other another ∷ others) =
    (at ≡ place) × GiveAlike content another × ArePartsAlike parts others
ArePartsAlike parts others = ⊥

-- parts that are alike have one first fault of a scanner, or none
scanning-one : (options : Options) (parts others : List Part) (fault other : Option Fault) → ArePartsAlike parts others → IsScanningFault options parts fault
    → IsScanningFault options others other → fault ≡ other
scanning-one options [] [] fault other alike is is_other = is ∙ sym is_other
scanning-one options [] (part ∷ others) fault other alike is is_other = absurd alike
scanning-one options (Outside text ∷ parts) [] fault other alike is is_other = absurd alike
scanning-one options (Outside text ∷ parts) (Outside second ∷ others) fault other alike is is_other =
    scanning-one options parts others fault other alike is is_other
scanning-one options (Outside text ∷ parts) (Block place line another ∷ others) fault other alike is is_other = absurd alike
scanning-one options (Block at line content ∷ parts) [] fault other alike is is_other = absurd alike
scanning-one options (Block at line content ∷ parts) (Outside second ∷ others) fault other alike is is_other = absurd alike
scanning-one options (Block at line content ∷ parts) (Block place end another ∷ others) fault other alike (inl (first, found, is)) (inl (second, found_other, is_other)) =
    is ∙ ap Some (content-one options at content another first second alike.1 found
    (subst (λ (p : Pos). IsFaultOfContent options p another second) (sym alike.0) found_other)) ∙ sym is_other
scanning-one options (Block at line content ∷ parts) (Block place end another ∷ others) fault other alike (inl (first, found, is)) (inr none) =
    absurd (content_or_not options at content another first alike.1 found none.0)
scanning-one options (Block at line content ∷ parts) (Block place end another ∷ others) fault other alike (inr none) (inl (second, found_other, is_other)) =
    absurd (content_or_not options place another content second (alike-turned content another alike.1) found_other none.0)
scanning-one options (Block at line content ∷ parts) (Block place end another ∷ others) fault other alike (inr none) (inr none_other) =
    scanning-one options parts others fault other alike.2 none.1 none_other.1

module _ (options : Options) where
  -- the parts of a source are alike, and leave one environment
  pub parts-one : (environment : Environment) (pieces : List SourcePiece) (parts others : List Part) (last other : Environment)
      → AreParts options environment pieces parts last → AreParts options environment pieces others other
      → (last ≡ other) × ArePartsAlike parts others
  parts-one environment [] [] [] last other are are_other = (are ∙ sym are_other, tt)
  parts-one environment [] [] (part ∷ others) last other are are_other = absurd are_other
  parts-one environment [] (part ∷ parts) others last other are are_other = absurd are
  parts-one environment (piece.Outside text ∷ pieces) [] others last other are are_other = absurd are
  parts-one environment (piece.Outside text ∷ pieces) (Block place line content ∷ parts) others last other are are_other = absurd are
  parts-one environment (piece.Outside text ∷ pieces) (Outside first ∷ parts) [] last other are are_other = absurd are_other
  parts-one environment (piece.Outside text ∷ pieces) (Outside first ∷ parts) (Block place line content ∷ others) last other are are_other = absurd are_other
  parts-one environment (piece.Outside text ∷ pieces) (Outside first ∷ parts) (Outside second ∷ others) last other are are_other =
      parts-one environment pieces parts others last other are.1 are_other.1
  parts-one environment (piece.Block kind body at start end_line ∷ pieces) [] others last other are are_other = absurd are
  parts-one environment (piece.Block kind body at start end_line ∷ pieces) (Outside first ∷ parts) others last other are are_other = absurd are
  parts-one environment (piece.Block kind body at start end_line ∷ pieces) (Block place line content ∷ parts) [] last other are are_other = absurd are_other
  parts-one environment (piece.Block kind body at start end_line ∷ pieces) (Block place line content ∷ parts) (Outside second ∷ others) last other are are_other =
      absurd are_other
  parts-one environment (piece.Block kind body at start end_line ∷ pieces) (Block place line content ∷ parts) (Block place_other line_other another ∷ others) last other are are_other =
      let same = block-one options environment kind body at start are.2.0 are_other.2.0 content another are.2.1 are_other.2.1 in
      let later = parts-one are.2.0 pieces parts others last other are.2.2
      (subst (λ (given : Environment). AreParts options given pieces others other) (sym same.0) are_other.2.2) in
      (later.0, (are.0 ∙ sym are_other.0, same.1, later.1))

  -- a source has one first fault of a block, if it has one
  among-one : (environment : Environment) (pieces : List SourcePiece) (fault other : Fault)
      → IsFaultAmong options environment pieces fault → IsFaultAmong options environment pieces other → fault ≡ other
  among-one environment [] fault other is is_other = absurd is
  among-one environment (piece.Outside text ∷ pieces) fault other is is_other = among-one environment pieces fault other is is_other
  among-one environment (piece.Block kind body at start end_line ∷ pieces) fault other (inl is) (inl is_other) =
      fault-one options environment kind body at start fault other is is_other
  among-one environment (piece.Block kind body at start end_line ∷ pieces) fault other (inl is) (inr is_other) =
      absurd (block_or_not options environment kind body at start is_other.0 is_other.1 fault is_other.2 is)
  among-one environment (piece.Block kind body at start end_line ∷ pieces) fault other (inr is) (inl is_other) =
      absurd (block_or_not options environment kind body at start is.0 is.1 other is.2 is_other)
  among-one environment (piece.Block kind body at start end_line ∷ pieces) fault other (inr is) (inr is_other) =
      let same = (block-one options environment kind body at start is.0 is_other.0 is.1 is_other.1 is.2 is_other.2).0 in
      among-one is.0 pieces fault other is.3
      (subst (λ (after : Environment). IsFaultAmong options after pieces other) (sym same) is_other.3)

  -- a source whose blocks all give something has none
  parts_or_not : (environment : Environment) (pieces : List SourcePiece) (parts : List Part) (last : Environment) (fault : Fault)
      → AreParts options environment pieces parts last → IsFaultAmong options environment pieces fault → ⊥
  parts_or_not environment [] parts last fault are is = is
  parts_or_not environment (piece.Outside text ∷ pieces) [] last fault are is = are
  parts_or_not environment (piece.Outside text ∷ pieces) (Outside other ∷ parts) last fault are is =
      parts_or_not environment pieces parts last fault are.1 is
  parts_or_not environment (piece.Outside text ∷ pieces) (Block place line content ∷ parts) last fault are is = are
  parts_or_not environment (piece.Block kind body at start end_line ∷ pieces) [] last fault are is = are
  parts_or_not environment (piece.Block kind body at start end_line ∷ pieces) (Outside other ∷ parts) last fault are is = are
  parts_or_not environment (piece.Block kind body at start end_line ∷ pieces) (Block place line content ∷ parts) last fault are (inl is) =
      block_or_not options environment kind body at start are.2.0 content fault are.2.1 is
  parts_or_not environment (piece.Block kind body at start end_line ∷ pieces) (Block place line content ∷ parts) last fault are (inr is) =
      let same = (block-one options environment kind body at start are.2.0 is.0 content is.1 are.2.1 is.2).0 in
      parts_or_not are.2.0 pieces parts last fault are.2.2
      (subst (λ (after : Environment). IsFaultAmong options after pieces fault) (sym same) is.3)

  module _ (names : List (List ℕ)) (made : List Made) where
    -- ---- behind all blocks

    end-one : (parts others : List Part) (last end : Environment) (fault other : Option Fault) → ArePartsAlike parts others → last ≡ end
        → IsFaultOfParts options names parts last made fault → IsFaultOfParts options names others end made other → fault ≡ other
    end-one parts others last end fault other alike same (inl is) (inl is_other) =
        scanning-one options parts others fault other alike is.1 is_other.1
    end-one parts others last end fault other alike same (inl is) (inr is_other) =
        let none : fault ≡ None = scanning-one options parts others fault None alike is.1 is_other.0 in
        absurd (let some = subst (λ (f : Option Fault). IsSome f) none is.0 in cc)
    end-one parts others last end fault other alike same (inr is) (inl is_other) =
        let none : None ≡ other = scanning-one options parts others None other alike is.0 is_other.1 in
        absurd (let some = subst (λ (f : Option Fault). IsSome f) (sym none) is_other.0 in cc)
    end-one parts others last end fault other alike same (inr is) (inr is_other) =
        is.2 ∙ ap (λ (e : Environment). directives_fault (config_of e.settings).names made) same ∙ sym is_other.2

    behind-one : (pieces : List SourcePiece) (fault other : Option Fault) → IsFaultBehind options names pieces made fault
        → IsFaultBehind options names pieces made other → fault ≡ other
    behind-one pieces fault other is is_other =
        let same = parts-one first_environment pieces is.0 is_other.0 is.1 is_other.1 is.2 is_other.2 in
        end-one is.0 is_other.0 is.1 is_other.1 fault other same.1 same.0 is.3 is_other.3

    behind_or_among : (pieces : List SourcePiece) (fault : Option Fault) (other : Fault) → IsFaultBehind options names pieces made fault
        → IsFaultAmong options first_environment pieces other → ⊥
    behind_or_among pieces fault other is is_other = parts_or_not first_environment pieces is.0 is.1 other is.2 is_other

    -- ---- sources

    blocks-one : (pieces : List SourcePiece) (fault other : Option Fault) → IsFaultOfBlocks options names pieces made fault
        → IsFaultOfBlocks options names pieces made other → fault ≡ other
    blocks-one pieces None None is is_other = refl
    blocks-one pieces None (Some other) is (inl is_other) = absurd (behind_or_among pieces None other is is_other)
    blocks-one pieces None (Some other) is (inr is_other) = behind-one pieces None (Some other) is is_other
    blocks-one pieces (Some fault) None (inl is) is_other = absurd (behind_or_among pieces None fault is_other is)
    blocks-one pieces (Some fault) None (inr is) is_other = behind-one pieces (Some fault) None is is_other
    blocks-one pieces (Some fault) (Some other) (inl is) (inl is_other) = ap Some (among-one first_environment pieces fault other is is_other)
    blocks-one pieces (Some fault) (Some other) (inl is) (inr is_other) = absurd (behind_or_among pieces (Some other) fault is_other is)
    blocks-one pieces (Some fault) (Some other) (inr is) (inl is_other) = absurd (behind_or_among pieces (Some fault) other is is_other)
    blocks-one pieces (Some fault) (Some other) (inr is) (inr is_other) = behind-one pieces (Some fault) (Some other) is is_other

    pieces-one : (split : Split) (fault other : Option Fault) → IsFaultOfPieces options names split made fault
        → IsFaultOfPieces options names split made other → fault ≡ other
    pieces-one (Err first) fault other is is_other = is ∙ sym is_other
    pieces-one (Ok pieces) fault other is is_other = blocks-one pieces fault other is is_other

  -- a source has one first fault, or none
  pub IsFirstFault-one : (seen : List HeldFile) (main : List ℕ) (made : List Made) (fault other : Option Fault) → IsFirstFault options seen main made fault
      → IsFirstFault options seen main made other → fault ≡ other
  IsFirstFault-one seen main made fault other is is_other =
      pieces-one (expansion options seen main).met.names made (expansion options seen main).found fault other is is_other
