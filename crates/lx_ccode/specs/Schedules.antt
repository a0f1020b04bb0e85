-- Schedules: how a buffer is filled while a match runs (re2c's manual, "Storable state" and "Handling the end of input").
use Rattle.std.specs.Prelude.{◌≡◌, ℕ, ◌+◌, ◌≤◌, List, [], ◌∷◌, map, length, Bool, true, false}
use Rattle.std.specs.List.{list_any}
use Rattle.lx_ccode.specs.declared.piece.Piece.{Piece}
use Rattle.lx_ccode.specs.Statements.{all_statements, is_reading, is_refill, is_state}
use Rattle.lx_ccode.specs.Machine.{Refill, more, no_more, Answer, refilled, left}

-- how many units of the stream were added before the match began, and the answers to its refills
pub record Schedule : Type 0 where
  pub first : ℕ
  pub answers : List Answer

-- a buffer: the units that it dropped, where its units end, both from the stream's beginning, and whether it said that there are no more
pub record Buffer : Type 0 where
  pub base : ℕ
  pub limit : ℕ
  pub closed : Bool

-- the refill, without a drop
abbrev pub undropped : Refill → Refill
undropped (more dropped added) = more 0 added
undropped no_more = no_more

-- the answer, without drops
abbrev pub undropped_answer : Answer → Answer
undropped_answer (refilled refill) = refilled (undropped refill)
undropped_answer (left refills) = left (map undropped refills)

-- the schedule, without drops
abbrev pub without_drops : Schedule → Schedule
without_drops schedule = record schedule { answers = map undropped_answer schedule.answers }

-- the buffer after a refill
abbrev pub after_refill : Buffer → Refill → Buffer
after_refill buffer (more dropped added) = record buffer { base = buffer.base + dropped; limit = buffer.limit + added }
after_refill buffer no_more = record buffer { closed = true }

-- the buffer after refills
abbrev pub after_refills : Buffer → List Refill → Buffer
after_refills buffer [] = buffer
after_refills buffer (refill ∷ refills) = after_refills (after_refill buffer refill) refills

-- on a stream of so many units, in a match from this start, in a piece that stores states or does not
module _ (units start : ℕ) (states : Bool) where
  -- a refill drops only units before the start and adds at least one of the stream; it says that there are no more only
  -- where the whole stream was added, and adds none after that
  abbrev pub IsLegalRefill : Buffer → Refill → Type 0
  IsLegalRefill buffer (more dropped added) =
      (buffer.closed ≡ false) × (buffer.base + dropped ≤ start) × (1 ≤ added) × (buffer.limit + added ≤ units)
  IsLegalRefill buffer no_more = buffer.limit ≡ units

  -- each refill may follow the ones before it
  abbrev pub AreLegalRefills : Buffer → List Refill → Type 0
  AreLegalRefills buffer [] = Unit {0}
  AreLegalRefills buffer (refill ∷ refills) = IsLegalRefill buffer refill × AreLegalRefills (after_refill buffer refill) refills

  -- each answer may follow the ones before it; a scanner is left only where it stores states and there may be more, and
  -- comes back after at least one refill
  abbrev pub AreLegalAnswers : Buffer → List Answer → Type 0
  AreLegalAnswers buffer [] = Unit {0}
  AreLegalAnswers buffer (refilled refill ∷ answers) = IsLegalRefill buffer refill × AreLegalAnswers (after_refill buffer refill) answers
  AreLegalAnswers buffer (left refills ∷ answers) =
      (buffer.closed ≡ false) × (states ≡ true) × (1 ≤ length refills) × AreLegalRefills buffer refills
      × AreLegalAnswers (after_refills buffer refills) answers

-- it reads units, and never asks for a refill
abbrev pub ReadsUnasked : Piece → Type 0
ReadsUnasked piece = (list_any is_reading (all_statements piece.blocks) ≡ true) × (list_any is_refill (all_statements piece.blocks) ≡ false)

-- what the manual asks of the one who fills the buffer, for a piece on a stream of so many units and a match from this start
pub record IsLegal (piece : Piece) (units start : ℕ) (schedule : Schedule) : Type 0 where
  -- the units before the start were added
  pub from_start : start ≤ schedule.first
  pub within : schedule.first ≤ units
  -- a piece that reads and never asks gets the whole stream first
  pub whole : ReadsUnasked piece → schedule.first ≡ units
  pub answers : AreLegalAnswers units start (list_any is_state (all_statements piece.blocks)) (record { base = 0; limit = schedule.first; closed = false }) schedule.answers
