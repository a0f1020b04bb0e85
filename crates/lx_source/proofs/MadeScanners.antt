-- Of one block with scanners, and a text behind it, one piece with a scanner is made.
use Rattle.std.proofs.Common.{◌≡◌, ℕ, Bool, false, List, [], ◌∷◌, None, ap, refl}
use Rattle.lx_base.specs.declared.places.Pos.{Pos}
use Rattle.lx_ccode.specs.Front.{IsPlaced}
use Rattle.lx_ccode.specs.Heads.{is_three}
use Rattle.lx_ccode.specs.Validity.{IsValid}
use Rattle.lx_ccode.specs.declared.piece.Piece.{Piece}
use Rattle.lx_compile.specs.Made.{AreMade, Setting}
use Rattle.lx_compile.specs.declared.made.Made.{Made}
use Rattle.lx_compile.specs.declared.made.Made.TheVariants as made
use Rattle.lx_compile.specs.declared.parts.Content.TheVariants.{Scanners}
use Rattle.lx_compile.specs.declared.parts.Part.TheVariants.{Outside, Block}
use Rattle.lx_compile.specs.declared.warned.PlacedWarning.{PlacedWarning}
use Rattle.lx_rules.specs.declared.resolved.Resolved.{Resolved}
use Rattle.lx_source.specs.Sources.{source_options}

-- one piece with a scanner over bytes, and a text
pub record HasOneScanner (all : List Made) : Type 0 where
  pub piece : Piece
  pub checks : List (List ℕ)
  pub warnings : List PlacedWarning
  pub cover : List ℕ
  pub groups : ℕ
  pub text : List ℕ
  pub all_is : all ≡ made.Scanners piece checks warnings cover groups ∷ made.Outside text ∷ []
  pub valid : IsValid piece
  pub unit : piece.unit ≡ 1
  pub placed : IsPlaced None piece

module _ (names : List (List ℕ)) (own_switch : Bool) where
  -- what holds for all pieces of the output of a generated source
  abbrev setting : Setting
  setting = record { options = source_options; names = names; own_switch = own_switch }

  pub one_scanner : (place : Pos) (line : ℕ) (resolved : Resolved) (text : List ℕ) (all : List Made)
      → AreMade setting 1 0 (Block place line (Scanners resolved) ∷ Outside text ∷ []) all → HasOneScanner all
  one_scanner place line resolved text [] are = absurd are
  one_scanner place line resolved text (made.Outside other ∷ all) are = absurd are.1
  one_scanner place line resolved text (made.Bare at mark directive ∷ all) are = absurd are.1
  one_scanner place line resolved text (made.Scanners piece checks warnings cover groups ∷ []) are = absurd are.2
  one_scanner place line resolved text (made.Scanners piece checks warnings cover groups ∷ made.Outside other ∷ []) are =
      let old : is_three piece.head ≡ false = ap is_three are.1.0.generated.fields.head in record {
        piece = piece;
        checks = checks;
        warnings = warnings;
        cover = cover;
        groups = groups;
        text = other;
        all_is = refl;
        valid = are.1.0.generated.valid;
        unit = are.1.0.generated.fields.unit;
        placed = record { line = tt; stands = rw old refl };
      }
  one_scanner place line resolved text (made.Scanners piece checks warnings cover groups ∷ made.Outside other ∷ one ∷ all) are = absurd are.2.1
  one_scanner place line resolved text (made.Scanners piece checks warnings cover groups ∷ made.Scanners other more others words count ∷ all) are = absurd are.2
  one_scanner place line resolved text (made.Scanners piece checks warnings cover groups ∷ made.Bare at mark directive ∷ all) are = absurd are.2
