-- Each match of a run of an emitted piece may start.
use Rattle.std.specs.Prelude.{◌≡◌, ◌≤◌, ℕ, List, true, false, Option, Some, None, is_some, refl}
use Rattle.std.proofs.Common.{◌∙◌, ap}
use Rattle.std.specs.List.{list_any}
use Rattle.lx_ccode.specs.Statements.{all_statements, is_need, is_try}
use Rattle.lx_ccode.specs.declared.piece.Head.{Head}
use Rattle.lx_ccode.specs.declared.piece.LineMark.{LineMark}
use Rattle.lx_ccode.specs.declared.piece.Piece.{Piece}
use Rattle.lx_layout.specs.Pieces.{mode_of}
use Rattle.lx_rules.specs.declared.resolved.Resolved.{Resolved}
use Rattle.lx_run.specs.MatchRuns.{HoldsWhatItReads, IsOfRun, MayStart}
use Rattle.lx_run.specs.Readings.{Reading}
use Rattle.lx_run.specs.Streams.{guessed_mode, holds_all_in, mode_by}
use Rattle.lx_run.specs.Texts.{Between, beginning}
use Rattle.lx_run.proofs.RunStarts.{MayStart-of}
use Rattle.lx_compile.specs.Made.{IsScannerPiece, Setting}

-- where no refills are asked for the window has all
holds_unfilled : (eof : Option ℕ) → holds_all_in (mode_of eof false) ≡ true
holds_unfilled None = refl
holds_unfilled (Some unit) = refl

module _ (setting : Setting) (number first_state : ℕ) (line : Option LineMark) (resolved : Resolved) (piece : Piece) (checks : List (List ℕ))
    (is : IsScannerPiece setting number first_state line resolved piece checks) where
  pub emitted_whole : HoldsWhatItReads piece
  emitted_whole unasked =
      ap (λ (head : Option Head). holds_all_in (mode_by head
      (guessed_mode (list_any is_need (all_statements piece.blocks)) (list_any is_try (all_statements piece.blocks)) (is_some piece.eof)))) is.generated.fields.head
      ∙ ap (λ fill. holds_all_in (mode_of resolved.config.eof fill)) (is.generated.asks unasked) ∙ holds_unfilled resolved.config.eof

  pub emitted_start : (reading : Reading) (between : Between) → 1 ≤ reading.step → IsOfRun reading (beginning piece reading) between
      → MayStart piece reading between.start between.limit between.leaving
  emitted_start reading between step of = MayStart-of piece reading step emitted_whole between of
