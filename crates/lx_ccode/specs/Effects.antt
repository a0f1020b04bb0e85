-- Which part of the machine each statement may change.
use Rattle.std.specs.Prelude.{◌≡◌, ℕ, List, Option, Some, None, Bool, true, false}
use Rattle.lx_ccode.specs.declared.piece.Stmt.{Stmt}
use Rattle.lx_ccode.specs.declared.piece.Stmt.TheVariants.{Peek, Skip, Backup, Restore, Accept, Set, Unset, Copy, MSet, MUnset, MCopy, Cond, Tag, Count, End, Back, Need, Try}
use Rattle.lx_ccode.specs.Statements.{is_refill, is_state}
use Rattle.lx_ccode.specs.Machine.{Machine, Answer, Next, goes_on, ends}

-- the machine after a step, whether the match goes on or ends
abbrev pub machine_after : Next → Machine
machine_after (goes_on code machine answers) = machine
machine_after (ends outcome machine) = machine

-- the answers that are not yet given after a step; where the match ends, those of before
abbrev pub answers_after : List Answer → Next → List Answer
answers_after answers (goes_on code machine others) = others
answers_after answers (ends outcome machine) = answers

abbrev pub moves_cursor : Stmt → Bool
moves_cursor Skip = true
moves_cursor Restore = true
moves_cursor (Back register) = true
moves_cursor _ = false

abbrev pub moves_marker : Stmt → Bool
moves_marker Backup = true
moves_marker _ = false

-- a Peek reads a unit, and where a scanner was left the unit is gone
abbrev pub changes_unit : Stmt → Bool
changes_unit Peek = true
changes_unit (Need units) = true
changes_unit (Try block) = true
changes_unit _ = false

abbrev pub sets_accept : Stmt → Bool
sets_accept (Accept accept) = true
sets_accept _ = false

abbrev pub sets_condition : Stmt → Bool
sets_condition (Cond cond) = true
sets_condition _ = false

-- the register that the statement writes
abbrev pub register_written : Stmt → Option ℕ
register_written (Set register) = Some register
register_written (Unset register) = Some register
register_written (Copy register source) = Some register
register_written _ = None

-- the history that the statement writes
abbrev pub history_written : Stmt → Option ℕ
history_written (MSet history) = Some history
history_written (MUnset history) = Some history
history_written (MCopy history source) = Some history
history_written _ = None

-- the statement gives a value to something of the user's
abbrev pub gives_value : Stmt → Bool
gives_value (Cond cond) = true
gives_value (Tag tag is_history register) = true
gives_value (Count groups) = true
gives_value (End place register) = true
gives_value _ = false

-- between the machines before and after the statement, only what the statement is for has changed
pub record ChangesOnly (statement : Stmt) (before after : Machine) : Type 0 where
  pub cursor : moves_cursor statement ≡ false → after.cursor ≡ before.cursor
  pub marker : moves_marker statement ≡ false → after.marker ≡ before.marker
  pub limit : is_refill statement ≡ false → after.limit ≡ before.limit
  pub unit : changes_unit statement ≡ false → after.unit ≡ before.unit
  pub accept : sets_accept statement ≡ false → after.accept ≡ before.accept
  pub registers : (register : ℕ) → (register_written statement ≡ Some register → ⊥) → after.registers register ≡ before.registers register
  pub histories : (history : ℕ) → (history_written statement ≡ Some history → ⊥) → after.histories history ≡ before.histories history
  pub cond : sets_condition statement ≡ false → after.cond ≡ before.cond
  pub state : is_state statement ≡ false → after.state ≡ before.state
  pub values : gives_value statement ≡ false → after.values ≡ before.values
