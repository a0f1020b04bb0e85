-- Calls of a lexer over windows that make one match on a stream.
use Rattle.std.specs.Prelude.{◌≡◌, ◌<◌, ◌⊎◌, ℕ, ◌-◌, Bool, true, false, List, [], ◌∷◌, ◌++◌, map, length, is_some, nat_lt, if◌then◌else◌}
use Rattle.std.specs.List.{list_any}
use Rattle.lx_ccode.specs.Machine.{Answer, Refill, left, more, no_more, refilled}
use Rattle.lx_ccode.specs.Runs.{Ended}
use Rattle.lx_ccode.specs.Schedules.{Schedule}
use Rattle.lx_window.specs.Windows.{IsFedBy, IsFormed}
use Rattle.lx_step.specs.declared.answers.Outcome.{Outcome}
use Rattle.lx_step.specs.declared.answers.Outcome.TheVariants.{Loop, NeedFill}
use Rattle.lx_step.specs.Advances.{IsAdvance}
use Rattle.lx_step.specs.Feeds.{Feed}
use Rattle.lx_step.specs.Held.{Held, Tells, after_match, is_last}
use Rattle.lx_step.specs.Steps.{IsAnswer}

-- ---- the answers of a match

-- the answer, as one that drops nothing: each window drops what stands before the match's start, from where it begins itself
abbrev pub undropped : Answer → Answer
undropped (refilled (more dropped added)) = refilled (more 0 added)
undropped (refilled no_more) = refilled no_more
undropped (left refills) = left refills

-- the refill between two limits of windows: where the limit stayed, there are no more units
abbrev pub refill_between : (from to : ℕ) → Refill
refill_between from to = if nat_lt from to then more 0 (to - from) else no_more

-- the units that the first window had, and then the answers
abbrev pub schedule_of : Feed → List Answer → Schedule
schedule_of before answers = record { first = before.window.limit; answers = answers }

abbrev pub is_no_more : Refill → Bool
is_no_more (more dropped added) = false
is_no_more no_more = true

-- the scanner is left only where it was not said before that there are no more units
abbrev pub LeavesOpen : (closed : Bool) → List Answer → Type 0
LeavesOpen closed [] = Unit {0}
LeavesOpen closed (refilled refill ∷ answers) = LeavesOpen (if is_no_more refill then true else closed) answers
LeavesOpen closed (left refills ∷ answers) = (closed ≡ false) × LeavesOpen (list_any is_no_more refills) answers

-- ---- the calls of a match

-- an outcome that ends a match: by a step of the machine, or by the count of a loop
abbrev pub IsEnd : Outcome → Type 0
IsEnd Loop = Unit {0}
IsEnd told = IsAnswer told

-- A match that a call left goes on, over another window or the same: it is fed by the stream, begins where the match does, and has units
-- behind the limit that the call left, or all that there are. The lexer may have been saved and resumed on its piece: it holds the same.
pub record GoesOn (stream : List ℕ) (held : Held) (after again : Feed) : Type 0 where
  pub stored : is_some held.left ≡ true
  pub start : again.window.start ≡ held.start
  pub formed : IsFormed again.window
  pub fed : IsFedBy stream again.window again.ahead
  pub further : (after.window.limit < again.window.limit) ⊎ (again.window.limit ≡ length stream)

module _ (stream : List ℕ) (told : Outcome) (new : Held) where
  -- the calls from one on, each behind one that left the match, up to one that ends it; and the answers that they and the refills between
  -- them were
  pub data AreCalls : (old : Held) → (before : Feed) → List Answer → Type 0 where
    ends : {old : Held} {before after : Feed} {all : List Answer} (call : IsAdvance old new before after told) → IsEnd told
        → all ≡ map undropped (call.answers ++ call.used) → AreCalls old before all
    leaves : {old middle : Held} {before after again : Feed} {all others : List Answer} (call : IsAdvance old middle before after NeedFill)
        → GoesOn stream middle after again → AreCalls middle again others
        → all ≡ map undropped (call.answers ++ call.used) ++ left (refill_between after.window.limit again.window.limit ∷ []) ∷ others
        → AreCalls old before all

-- a match ended as a run does: it told the outcome of the run, and the lexer holds what the run tells
pub record EndsAsRun (old new : Held) (start : ℕ) (told : Outcome) (end : Ended) : Type 0 where
  pub tells : Tells told end.outcome
  pub holds : new ≡ after_match old start (is_last told) end new.assigned
