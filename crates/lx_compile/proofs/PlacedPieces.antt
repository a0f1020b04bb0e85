-- The places of pieces in an output.
use Rattle.std.proofs.Common.{◌≡◌, ◌∙◌, ℕ, ◌+◌, arith, Bool, true, false, List, Option, Some, None, refl, sym, ap₂}
use Rattle.std.specs.Prelude.{◌&&◌, min, is_some, if◌then◌else◌}
use Rattle.std.proofs.lemmas.Bool.{false≢true}
use Rattle.lx_base.specs.declared.settings.Options.{Options}
use Rattle.lx_ccode.specs.Front.{IsPlaced}
use Rattle.lx_ccode.specs.Heads.{is_format_three, is_three}
use Rattle.lx_ccode.specs.Marks.{IsUnmarkedLine}
use Rattle.lx_ccode.specs.declared.piece.LineMark.{LineMark}
use Rattle.lx_ccode.specs.declared.piece.Piece.{Piece}
use Rattle.lx_creader.specs.Cut.{HasNoOpener}
use Rattle.lx_compile.specs.Options.{names_output}
use Rattle.lx_compile.specs.Writing.{place_of}
use Rattle.lx_compile.proofs.UnmarkedTexts.{IsUnmarkedLine-plain}

-- the piece has a place
abbrev pub has_place : Piece → Bool
has_place piece = if is_three piece.head then is_some piece.line else false

module _ (out : List ℕ) (line : ℕ) (piece : Piece) where
  -- the place, where there is one
  abbrev place_where : Bool → Option LineMark
  place_where has = if has then Some (record { line = min (line + 4) 4294967295; file = out }) else None

  pub IsPlaced-place_of : IsPlaced (place_of out line piece) piece
  IsPlaced-place_of = by (has_place piece) refl
    where
      by : (has : Bool) → has_place piece ≡ has → IsPlaced (place_where has) piece
      by true is = record { line = omega arith; stands = sym is }
      by false is = record { line = tt; stands = sym is }

  -- no begin mark begins in its file's name, where no opener does
  pub IsUnmarkedLine-place_of : (has_place piece ≡ true → HasNoOpener out) → IsUnmarkedLine (place_of out line piece)
  IsUnmarkedLine-place_of plain = by (has_place piece) refl
    where
      by : (has : Bool) → has_place piece ≡ has → IsUnmarkedLine (place_where has)
      by true is = IsUnmarkedLine-plain (place_where true) (plain is)
      by false is = tt

both_hold : (three told : Bool) → (if three then told else false) ≡ true → (three && told) ≡ true
both_hold true told is = is
both_hold false told is = absurd (false≢true is)

-- where a piece that is made by these options has a place, they name the output
pub names_output-placed : (options : Options) (piece : Piece) → is_three piece.head ≡ is_format_three options.format
    → is_some piece.line ≡ options.lines → has_place piece ≡ true → names_output options ≡ true
names_output-placed options piece three told has =
    ap₂ (λ (first second : Bool). first && second) (sym three) (sym told) ∙ both_hold (is_three piece.head) (is_some piece.line) has
