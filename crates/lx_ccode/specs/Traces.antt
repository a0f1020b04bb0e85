-- Traces: the statements that a run makes, without a count of its loops; and the run that they tell.
use Rattle.std.specs.Prelude.{◌≡◌, ℕ, zero, suc, ◌+◌, ◌<◌, ◌≤◌, Bool, true, false, List, [], ◌∷◌, Option, Some, None, if◌then◌else◌}
use Rattle.lx_ccode.specs.declared.piece.Stmt.{Stmt}
use Rattle.lx_ccode.specs.declared.piece.Stmt.TheVariants.{Peek, Skip, IfUnit, IfIs, IfSet, IfAccept, IfEnd, Try, Goto}
use Rattle.lx_ccode.specs.declared.piece.Piece.{Piece}
use Rattle.lx_ccode.specs.Machine.{Machine, Answer, stuck, looped, Next, goes_on, ends, step}
use Rattle.lx_ccode.specs.Runs.{Ended, ended, loop_count}

-- the statements that were made, in their order, and what comes behind the last one
pub record Trace : Type 0 where
  pub made : List Stmt
  pub next : Next

-- a trace with a statement before its first one
abbrev pub with_first : Stmt → Trace → Trace
with_first statement trace = record { made = statement ∷ trace.made; next = trace.next }

module _ (piece : Piece) (stream : List ℕ) where
  -- a statement, and then what is made where it goes on; nothing is made behind the end of a match
  abbrev pub traced : Stmt → (List Stmt → Machine → List Answer → Trace) → Next → Trace
  traced statement onward (goes_on code machine answers) = with_first statement (onward code machine answers)
  traced statement onward (ends outcome machine) = record { made = statement ∷ []; next = ends outcome machine }

  -- the trace of so many steps from the rest of a block on, or of fewer where the match ends before; stuck where no statement is left
  abbrev pub trace : (steps : ℕ) → List Stmt → Machine → List Answer → Trace
  trace zero code machine answers = record { made = []; next = goes_on code machine answers }
  trace (suc steps) [] machine answers = record { made = []; next = ends stuck machine }
  trace (suc steps) (statement ∷ rest) machine answers = traced statement (trace steps) (step piece stream statement rest machine answers)

  -- the trace of so many steps more
  abbrev pub trace_on : (steps : ℕ) → Next → Trace
  trace_on steps (goes_on code machine answers) = trace steps code machine answers
  trace_on steps (ends outcome machine) = record { made = []; next = ends outcome machine }

  module _ (start : ℕ) where
    -- behind so many steps of a match the run is over: the match has ended, or the steps are the count of a loop
    abbrev pub IsOver : (steps : ℕ) → Next → Ended → Type 0
    IsOver steps (goes_on code machine answers) end = (loop_count piece start machine.limit ≤ steps) × (end ≡ ended looped machine)
    IsOver steps (ends outcome machine) end = end ≡ ended outcome machine

    -- it is not over: the match goes on, and the steps are fewer than the count of a loop
    abbrev pub IsUnderway : (steps : ℕ) → Next → Type 0
    IsUnderway steps (goes_on code machine answers) = steps < loop_count piece start machine.limit
    IsUnderway steps (ends outcome machine) = ⊥

    -- what a match tells by its traces from its first block on: it is over behind some steps, and behind no fewer
    pub record IsTold (code : List Stmt) (machine : Machine) (answers : List Answer) (end : Ended) : Type 0 where
      pub steps : ℕ
      pub over : IsOver steps (trace steps code machine answers).next end
      pub underway : (fewer : ℕ) → fewer < steps → IsUnderway fewer (trace fewer code machine answers).next

-- ---- what is counted in a trace

-- how many of the statements pass a test
abbrev pub count_made : (test : Stmt → Bool) → List Stmt → ℕ
count_made test [] = 0
count_made test (statement ∷ made) = (if test statement then 1 else 0) + count_made test made

abbrev pub is_peek : Stmt → Bool
is_peek Peek = true
is_peek _ = false

abbrev pub is_skip : Stmt → Bool
is_skip Skip = true
is_skip _ = false

-- the block to which the statement may jump; a Switch has more than one
abbrev pub jump_target : Stmt → Option ℕ
jump_target (IfUnit greatest block) = Some block
jump_target (IfIs unit block) = Some block
jump_target (IfSet set block) = Some block
jump_target (IfAccept accept block) = Some block
jump_target (IfEnd block) = Some block
jump_target (Try block) = Some block
jump_target (Goto block) = Some block
jump_target _ = None

-- the last statement made may jump to the block
abbrev pub JumpsLastTo : (block : ℕ) → List Stmt → Type 0
JumpsLastTo block [] = ⊥
JumpsLastTo block (statement ∷ []) = jump_target statement ≡ Some block
JumpsLastTo block (statement ∷ next ∷ made) = JumpsLastTo block (next ∷ made)
