-- The loop of a match over a window: one call of a lexer after another.
use Rattle.std.proofs.Common.{◌≡◌, ◌∙◌, ap, sym, subst, refl, ℕ, ◌+◌, ◌/◌, inl, inr, Bool, length, length-drop, Result, Ok, Err, arith}
use Rattle.std.specs.Prelude.{◌⊎◌, IfOk, OnErr, if◌then◌else◌}
use Rattle.lx_ccode.specs.declared.piece.Piece.{Piece}
use Rattle.lx_window.specs.Counts.{Rose}
use Rattle.lx_window.specs.MemorySource.{MemorySource, ahead_of}
use Rattle.lx_window.specs.WindowView.{WindowView}
use Rattle.lx_window.specs.Windows.{IsWindowOf}
use Rattle.lx_window.proofs.StreamUnits.{length-stream_units}
use Rattle.lx_step.specs.declared.answers.Outcome.{Outcome}
use Rattle.lx_step.specs.declared.answers.Outcome.TheVariants.{Rule, Jump, NoRule, End, NeedFill, WindowFull, ReadFailed, Stuck, Loop, Spent, Memory}
use Rattle.lx_step.specs.Advances.{IsAdvance}
use Rattle.lx_step.specs.Feeds.{Feed, feed_of}
use Rattle.lx_step.specs.Held.{Held}
use Rattle.lx_run.specs.Matches.{MatchEnd}
use Rattle.lx_run.specs.Readings.{Reading}
use Rattle.lx_run.specs.Texts.{Between, match_at}
use Rattle.lx_run.specs.Windows.{HasMatched, IsAt}
use Rattle.lx_run.proofs.WindowEnds.{IsEnd}
use Rattle.lx_run.proofs.WindowMatches.{HasMatched-ended, IsUnderWay, call_given, call_leads, feed_chances, match_at-ended}

-- a source in memory has no fault
pub Rose-none : Rose 0 0 → ⊥
Rose-none rose = let most = rose (omega arith) in omega (arith, most)

-- an answer, where a fault would be one
pub some_answer : {A E : Type 0} (Holds : A → Type 0) (result : Result A E) → IfOk result Holds → OnErr result (Rose 0 0) → (answer : A) × Holds answer
some_answer Holds (Ok answer) holds fails = (answer, holds)
some_answer Holds (Err error) holds fails = absurd (Rose-none fails)

-- the chances of a match, by what the source has and does next
pub feed_chances-source : (reading : Reading) (unit : ℕ) (leaves leaving : Bool) (start limit : ℕ) (source : MemorySource) (window : WindowView)
    → source.unit ≡ unit → IsAt reading unit leaves leaving start limit (feed_of (ahead_of source) window)
    → feed_chances reading (feed_of (ahead_of source) window) ≡ length source.bytes / source.unit + (if source.leaves_next then 1 else 0)
feed_chances-source reading unit leaves leaving start limit source window same at =
    ap (λ count. count + (if source.leaves_next then 1 else 0))
    (sym (length-drop window.limit reading.stream) ∙ ap length at.fed.goes_on ∙ length-stream_units window.unit source.bytes
    ∙ ap (λ one. length source.bytes / one) (at.unit_is ∙ sym same))

module _ (piece : Piece) (reading : Reading) (leaves : Bool) (between : Between) (held new : Held) (before after : Feed) (way : IsUnderWay piece reading leaves between held before) where
  -- a match ended, or memory ran out
  abbrev pub IsMade : Outcome → Type 0
  IsMade told = (told ≡ Memory) ⊎ ((told ≡ (match_at reading between).told) × HasMatched piece reading leaves between new after)

  made-ended : (told : Outcome) (call : IsAdvance held new before after told) → IsEnd told → IsMade told
  made-ended told call end = inr (
    ap (λ (ended : MatchEnd). ended.told) (sym (match_at-ended piece reading leaves between held new before after told way call end)),
    HasMatched-ended piece reading leaves between held new before after told way call end,
  )

  -- a lexer that is not spent does not answer so
  unspent : IsAdvance held new before after Spent → ⊥
  unspent call =
      let given = call_given piece reading leaves between held new before after Spent way call in
      (call_leads piece reading leaves between held new before after Spent way call
      (subst (λ (feed : Feed). IsWindowOf reading.stream feed.window) (sym call.behind) given.at.fed.holds)).1

  -- a call that was not left, of a source without faults
  pub made-call : (told : Outcome) → IsAdvance held new before after told → (told ≡ NeedFill → ⊥) → (told ≡ ReadFailed → ⊥) → IsMade told
  made-call NeedFill call unleft calm = absurd (unleft refl)
  made-call ReadFailed call unleft calm = absurd (calm refl)
  made-call Spent call unleft calm = absurd (unspent call)
  made-call Memory call unleft calm = inl refl
  made-call (Rule number) call unleft calm = made-ended (Rule number) call tt
  made-call (Jump number) call unleft calm = made-ended (Jump number) call tt
  made-call NoRule call unleft calm = made-ended NoRule call tt
  made-call End call unleft calm = made-ended End call tt
  made-call (WindowFull kept need size) call unleft calm = made-ended (WindowFull kept need size) call tt
  made-call Stuck call unleft calm = made-ended Stuck call tt
  made-call Loop call unleft calm = made-ended Loop call tt
