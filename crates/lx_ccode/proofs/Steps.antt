-- What one step keeps: the parts of the machine that the statement is not for, and the sum of the limit and of the units to come.
use Rattle.std.proofs.Common.{◌≡◌, ℕ, ◌+◌, Bool, true, false, List, [], ◌∷◌, Option, Some, None, refl, sym, ap, ◌∙◌, arith, zero, suc}
use Rattle.std.specs.Prelude.{if◌then◌else◌, ◌==◌}
use Rattle.std.proofs.lemmas.Bool.{eqb-true, false≢true}
use Rattle.lx_ccode.specs.declared.piece.Stmt.{Stmt}
use Rattle.lx_ccode.specs.declared.piece.Stmt.TheVariants.{Peek, Skip, Backup, Restore, Accept, Set, Unset, Copy, MSet, MUnset, MCopy, IfUnit, IfIs, IfSet, IfAccept, IfEnd, State, Need, Try, Cond, Tag, Count, End, Back, Switch, Goto, Leave, Code, Jump}
use Rattle.lx_ccode.specs.declared.piece.CodeBlock.{CodeBlock}
use Rattle.lx_ccode.specs.declared.piece.Piece.{Piece}
use Rattle.lx_ccode.specs.Statements.{is_refill, is_state}
use Rattle.lx_ccode.specs.Machine.{Value, Machine, Refill, more, no_more, Answer, refilled, left, units_of_answers, Next, goes_on, ends, jump, choose, come_back, peek, skip, if_unit, switch_unit, write_history, back, has_units, need, try, updated, step}
use Rattle.lx_ccode.specs.Effects.{machine_after, answers_after, moves_cursor, moves_marker, changes_unit, sets_accept, sets_condition, register_written, history_written, gives_value, ChangesOnly}

-- ---- the limit and the units to come

-- the limit and the units to come after a step, or a number where the match ends
abbrev pub units_after : ℕ → Next → ℕ
units_after sum (goes_on code machine answers) = machine.limit + units_of_answers answers
units_after sum (ends outcome machine) = sum

units_after-jump : (sum : ℕ) (target : Option (List Stmt)) (machine : Machine) (answers : List Answer)
    → machine.limit + units_of_answers answers ≡ sum → units_after sum (jump target machine answers) ≡ sum
units_after-jump sum None machine answers same = refl
units_after-jump sum (Some code) machine answers same = same

units_after-choose : (sum : ℕ) (test : Bool) (target : Option (List Stmt)) (rest : List Stmt) (machine : Machine) (answers : List Answer)
    → machine.limit + units_of_answers answers ≡ sum → units_after sum (choose test target rest machine answers) ≡ sum
units_after-choose sum true target rest machine answers same = units_after-jump sum target machine answers same
units_after-choose sum false target rest machine answers same = same

units_after-if : (sum : ℕ) (test : Bool) (then_next else_next : Next) → units_after sum then_next ≡ sum → units_after sum else_next ≡ sum
    → units_after sum (if test then then_next else else_next) ≡ sum
units_after-if sum true then_next else_next same other = same
units_after-if sum false then_next else_next same other = other

units_after-come_back : (sum : ℕ) (blocks : List CodeBlock) (refills : List Refill) (machine : Machine) (answers : List Answer)
    → machine.limit + units_of_answers (left refills ∷ answers) ≡ sum → units_after sum (come_back blocks refills machine answers) ≡ sum
units_after-come_back sum blocks refills machine answers same = units_after-jump sum _ _ answers (omega (arith, same))

units_after-need : (blocks : List CodeBlock) (units : ℕ) (rest : List Stmt) (sum : ℕ) (machine : Machine) (answers : List Answer)
    → machine.limit + units_of_answers answers ≡ sum → units_after sum (need blocks units rest machine answers) ≡ sum
units_after-need blocks units rest sum machine [] same = units_after-if sum (has_units units machine) _ _ same refl
units_after-need blocks units rest sum machine (refilled (more dropped added) ∷ answers) same =
    units_after-if sum (has_units units machine) _ _ same
    (units_after-need blocks units rest sum (record machine { limit = machine.limit + added }) answers (omega (arith, same)))
units_after-need blocks units rest sum machine (refilled no_more ∷ answers) same = units_after-if sum (has_units units machine) _ _ same refl
units_after-need blocks units rest sum machine (left refills ∷ answers) same =
    units_after-if sum (has_units units machine) _ _ same (units_after-come_back sum blocks refills machine answers same)

units_after-try : (blocks : List CodeBlock) (target : Option (List Stmt)) (rest : List Stmt) (sum : ℕ) (machine : Machine) (answers : List Answer)
    → machine.limit + units_of_answers answers ≡ sum → units_after sum (try blocks target rest machine answers) ≡ sum
units_after-try blocks target rest sum machine [] same = refl
units_after-try blocks target rest sum machine (refilled (more dropped added) ∷ answers) same = units_after-jump sum target _ answers (omega (arith, same))
units_after-try blocks target rest sum machine (refilled no_more ∷ answers) same = omega (arith, same)
units_after-try blocks target rest sum machine (left refills ∷ answers) same = units_after-come_back sum blocks refills machine answers same

units_after-peek : (sum : ℕ) (unit : Option ℕ) (rest : List Stmt) (machine : Machine) (answers : List Answer)
    → machine.limit + units_of_answers answers ≡ sum → units_after sum (peek unit rest machine answers) ≡ sum
units_after-peek sum None rest machine answers same = refl
units_after-peek sum (Some unit) rest machine answers same = same

units_after-skip : (sum : ℕ) (before_limit : Bool) (rest : List Stmt) (machine : Machine) (answers : List Answer)
    → machine.limit + units_of_answers answers ≡ sum → units_after sum (skip before_limit rest machine answers) ≡ sum
units_after-skip sum true rest machine answers same = same
units_after-skip sum false rest machine answers same = refl

units_after-if_unit : (sum : ℕ) (unit : Option ℕ) (test : ℕ → Bool) (target : Option (List Stmt)) (rest : List Stmt) (machine : Machine) (answers : List Answer)
    → machine.limit + units_of_answers answers ≡ sum → units_after sum (if_unit unit test target rest machine answers) ≡ sum
units_after-if_unit sum None test target rest machine answers same = refl
units_after-if_unit sum (Some unit) test target rest machine answers same = units_after-choose sum _ target rest machine answers same

units_after-switch_unit : (sum : ℕ) (unit : Option ℕ) (target : ℕ → Option (List Stmt)) (machine : Machine) (answers : List Answer)
    → machine.limit + units_of_answers answers ≡ sum → units_after sum (switch_unit unit target machine answers) ≡ sum
units_after-switch_unit sum None target machine answers same = refl
units_after-switch_unit sum (Some unit) target machine answers same = units_after-jump sum (target unit) machine answers same

units_after-write_history : (sum history : ℕ) (content : List (Option ℕ)) (rest : List Stmt) (machine : Machine) (answers : List Answer)
    → machine.limit + units_of_answers answers ≡ sum → units_after sum (write_history history content rest machine answers) ≡ sum
units_after-write_history sum zero content rest machine answers same = refl
units_after-write_history sum (suc place) content rest machine answers same = same

units_after-back : (sum : ℕ) (offset : Option ℕ) (rest : List Stmt) (machine : Machine) (answers : List Answer)
    → machine.limit + units_of_answers answers ≡ sum → units_after sum (back offset rest machine answers) ≡ sum
units_after-back sum None rest machine answers same = refl
units_after-back sum (Some offset) rest machine answers same = same

module _ (piece : Piece) (stream : List ℕ) (rest : List Stmt) (machine : Machine) (answers : List Answer) where
  abbrev sum : ℕ
  sum = machine.limit + units_of_answers answers

  -- where a match goes on, the limit and the units to come are as many as before
  pub units_after-step : (statement : Stmt) → units_after sum (step piece stream statement rest machine answers) ≡ sum
  units_after-step Peek = units_after-peek sum _ rest machine answers refl
  units_after-step Skip = units_after-skip sum _ rest machine answers refl
  units_after-step Backup = refl
  units_after-step Restore = refl
  units_after-step (Accept accept) = refl
  units_after-step (Set register) = refl
  units_after-step (Unset register) = refl
  units_after-step (Copy register source) = refl
  units_after-step (MSet history) = units_after-write_history sum history _ rest machine answers refl
  units_after-step (MUnset history) = units_after-write_history sum history _ rest machine answers refl
  units_after-step (MCopy history source) = units_after-write_history sum history _ rest machine answers refl
  units_after-step (IfUnit greatest block) = units_after-if_unit sum machine.unit _ _ rest machine answers refl
  units_after-step (IfIs unit block) = units_after-if_unit sum machine.unit _ _ rest machine answers refl
  units_after-step (IfSet set block) = units_after-if_unit sum machine.unit _ _ rest machine answers refl
  units_after-step (IfAccept accept block) = units_after-choose sum _ _ rest machine answers refl
  units_after-step (IfEnd block) = units_after-choose sum _ _ rest machine answers refl
  units_after-step (State state) = refl
  units_after-step (Need units) = units_after-need piece.blocks units rest sum machine answers refl
  units_after-step (Try block) = units_after-try piece.blocks _ rest sum machine answers refl
  units_after-step (Cond cond) = refl
  units_after-step (Tag tag true history) = refl
  units_after-step (Tag tag false register) = refl
  units_after-step (Count groups) = refl
  units_after-step (End place register) = refl
  units_after-step (Back register) = units_after-back sum (machine.registers register) rest machine answers refl
  units_after-step (Switch cases last) = units_after-switch_unit sum machine.unit _ machine answers refl
  units_after-step (Goto block) = units_after-jump sum _ machine answers refl
  units_after-step Leave = refl
  units_after-step (Code rule line action) = refl
  units_after-step (Jump cond rule) = refl

-- ---- what a statement is not for

-- nothing has changed
pub ChangesOnly-self : (statement : Stmt) (machine : Machine) → ChangesOnly statement machine machine
ChangesOnly-self statement machine = record {
  cursor = λ h. refl;
  marker = λ h. refl;
  limit = λ h. refl;
  unit = λ h. refl;
  accept = λ h. refl;
  registers = λ register h. refl;
  histories = λ history h. refl;
  cond = λ h. refl;
  state = λ h. refl;
  values = λ h. refl;
}

-- a value is updated at one place only
updated-other : {A : Type 0} (place : ℕ) (value : A) (function : ℕ → A) (at : ℕ) → (Some place ≡ Some at → ⊥) → updated place value function at ≡ function at
updated-other place value function at other = by_test (at == place) refl where
  by_test : (same : Bool) → (at == place) ≡ same → (if same then value else function at) ≡ function at
  by_test true e = absurd (other (ap Some (sym (eqb-true at place e))))
  by_test false e = refl

cursor_moved : (statement : Stmt) (machine : Machine) (offset : ℕ) → moves_cursor statement ≡ true → ChangesOnly statement machine (record machine { cursor = offset })
cursor_moved statement machine offset is = record {
  cursor = λ h. absurd (false≢true (sym h ∙ is));
  marker = λ h. refl;
  limit = λ h. refl;
  unit = λ h. refl;
  accept = λ h. refl;
  registers = λ register h. refl;
  histories = λ history h. refl;
  cond = λ h. refl;
  state = λ h. refl;
  values = λ h. refl;
}

marker_moved : (statement : Stmt) (machine : Machine) (offset : ℕ) → moves_marker statement ≡ true → ChangesOnly statement machine (record machine { marker = offset })
marker_moved statement machine offset is = record {
  cursor = λ h. refl;
  marker = λ h. absurd (false≢true (sym h ∙ is));
  limit = λ h. refl;
  unit = λ h. refl;
  accept = λ h. refl;
  registers = λ register h. refl;
  histories = λ history h. refl;
  cond = λ h. refl;
  state = λ h. refl;
  values = λ h. refl;
}

unit_read : (statement : Stmt) (machine : Machine) (unit : Option ℕ) → changes_unit statement ≡ true → ChangesOnly statement machine (record machine { unit = unit })
unit_read statement machine unit is = record {
  cursor = λ h. refl;
  marker = λ h. refl;
  limit = λ h. refl;
  unit = λ h. absurd (false≢true (sym h ∙ is));
  accept = λ h. refl;
  registers = λ register h. refl;
  histories = λ history h. refl;
  cond = λ h. refl;
  state = λ h. refl;
  values = λ h. refl;
}

accept_kept : (statement : Stmt) (machine : Machine) (accept : ℕ) → sets_accept statement ≡ true → ChangesOnly statement machine (record machine { accept = accept })
accept_kept statement machine accept is = record {
  cursor = λ h. refl;
  marker = λ h. refl;
  limit = λ h. refl;
  unit = λ h. refl;
  accept = λ h. absurd (false≢true (sym h ∙ is));
  registers = λ register h. refl;
  histories = λ history h. refl;
  cond = λ h. refl;
  state = λ h. refl;
  values = λ h. refl;
}

state_stored : (statement : Stmt) (machine : Machine) (state : Option ℕ) → is_state statement ≡ true → ChangesOnly statement machine (record machine { state = state })
state_stored statement machine state is = record {
  cursor = λ h. refl;
  marker = λ h. refl;
  limit = λ h. refl;
  unit = λ h. refl;
  accept = λ h. refl;
  registers = λ register h. refl;
  histories = λ history h. refl;
  cond = λ h. refl;
  state = λ h. absurd (false≢true (sym h ∙ is));
  values = λ h. refl;
}

value_given : (statement : Stmt) (machine : Machine) (values : List Value) → gives_value statement ≡ true → ChangesOnly statement machine (record machine { values = values })
value_given statement machine values is = record {
  cursor = λ h. refl;
  marker = λ h. refl;
  limit = λ h. refl;
  unit = λ h. refl;
  accept = λ h. refl;
  registers = λ register h. refl;
  histories = λ history h. refl;
  cond = λ h. refl;
  state = λ h. refl;
  values = λ h. absurd (false≢true (sym h ∙ is));
}

condition_set : (statement : Stmt) (machine : Machine) (cond : List ℕ) (values : List Value) → sets_condition statement ≡ true → gives_value statement ≡ true → ChangesOnly statement machine (record machine { cond = cond; values = values })
condition_set statement machine cond values is_0 is_1 = record {
  cursor = λ h. refl;
  marker = λ h. refl;
  limit = λ h. refl;
  unit = λ h. refl;
  accept = λ h. refl;
  registers = λ register h. refl;
  histories = λ history h. refl;
  cond = λ h. absurd (false≢true (sym h ∙ is_0));
  state = λ h. refl;
  values = λ h. absurd (false≢true (sym h ∙ is_1));
}

refill_made : (statement : Stmt) (machine : Machine) (limit : ℕ) (unit : Option ℕ) → is_refill statement ≡ true → changes_unit statement ≡ true → ChangesOnly statement machine (record machine { limit = limit; unit = unit })
refill_made statement machine limit unit is_0 is_1 = record {
  cursor = λ h. refl;
  marker = λ h. refl;
  limit = λ h. absurd (false≢true (sym h ∙ is_0));
  unit = λ h. absurd (false≢true (sym h ∙ is_1));
  accept = λ h. refl;
  registers = λ register h. refl;
  histories = λ history h. refl;
  cond = λ h. refl;
  state = λ h. refl;
  values = λ h. refl;
}

register_changed : (statement : Stmt) (machine : Machine) (place : ℕ) (value : Option ℕ) → register_written statement ≡ Some place
    → ChangesOnly statement machine (record machine { registers = updated place value machine.registers })
register_changed statement machine place value is = record {
  cursor = λ h. refl;
  marker = λ h. refl;
  limit = λ h. refl;
  unit = λ h. refl;
  accept = λ h. refl;
  registers = λ register other. updated-other place value machine.registers register (λ e. other (is ∙ e));
  histories = λ history h. refl;
  cond = λ h. refl;
  state = λ h. refl;
  values = λ h. refl;
}

history_changed : (statement : Stmt) (machine : Machine) (place : ℕ) (value : List (Option ℕ)) → history_written statement ≡ Some place
    → ChangesOnly statement machine (record machine { histories = updated place value machine.histories })
history_changed statement machine place value is = record {
  cursor = λ h. refl;
  marker = λ h. refl;
  limit = λ h. refl;
  unit = λ h. refl;
  accept = λ h. refl;
  registers = λ register h. refl;
  histories = λ history other. updated-other place value machine.histories history (λ e. other (is ∙ e));
  cond = λ h. refl;
  state = λ h. refl;
  values = λ h. refl;
}

-- a jump changes nothing more
ChangesOnly-jump : (statement : Stmt) (before machine : Machine) (target : Option (List Stmt)) (answers : List Answer)
    → ChangesOnly statement before machine → ChangesOnly statement before (machine_after (jump target machine answers))
ChangesOnly-jump statement before machine None answers changes = changes
ChangesOnly-jump statement before machine (Some code) answers changes = changes

ChangesOnly-if : (statement : Stmt) (before : Machine) (test : Bool) (then_next else_next : Next)
    → ChangesOnly statement before (machine_after then_next) → ChangesOnly statement before (machine_after else_next)
    → ChangesOnly statement before (machine_after (if test then then_next else else_next))
ChangesOnly-if statement before true then_next else_next changes other = changes
ChangesOnly-if statement before false then_next else_next changes other = other

-- ---- each statement

ChangesOnly-peek : (statement : Stmt) (unit : Option ℕ) (rest : List Stmt) (machine : Machine) (answers : List Answer)
    → changes_unit statement ≡ true → ChangesOnly statement machine (machine_after (peek unit rest machine answers))
ChangesOnly-peek statement None rest machine answers reads = ChangesOnly-self statement machine
ChangesOnly-peek statement (Some unit) rest machine answers reads = unit_read statement machine (Some unit) reads

ChangesOnly-skip : (statement : Stmt) (before_limit : Bool) (rest : List Stmt) (machine : Machine) (answers : List Answer)
    → moves_cursor statement ≡ true → ChangesOnly statement machine (machine_after (skip before_limit rest machine answers))
ChangesOnly-skip statement true rest machine answers moves = cursor_moved statement machine (suc machine.cursor) moves
ChangesOnly-skip statement false rest machine answers moves = ChangesOnly-self statement machine

ChangesOnly-choose : (statement : Stmt) (test : Bool) (target : Option (List Stmt)) (rest : List Stmt) (machine : Machine) (answers : List Answer)
    → ChangesOnly statement machine (machine_after (choose test target rest machine answers))
ChangesOnly-choose statement true target rest machine answers = ChangesOnly-jump statement machine machine target answers (ChangesOnly-self statement machine)
ChangesOnly-choose statement false target rest machine answers = ChangesOnly-self statement machine

ChangesOnly-if_unit : (statement : Stmt) (unit : Option ℕ) (test : ℕ → Bool) (target : Option (List Stmt)) (rest : List Stmt) (machine : Machine) (answers : List Answer)
    → ChangesOnly statement machine (machine_after (if_unit unit test target rest machine answers))
ChangesOnly-if_unit statement None test target rest machine answers = ChangesOnly-self statement machine
ChangesOnly-if_unit statement (Some unit) test target rest machine answers = ChangesOnly-choose statement _ target rest machine answers

ChangesOnly-switch_unit : (statement : Stmt) (unit : Option ℕ) (target : ℕ → Option (List Stmt)) (machine : Machine) (answers : List Answer)
    → ChangesOnly statement machine (machine_after (switch_unit unit target machine answers))
ChangesOnly-switch_unit statement None target machine answers = ChangesOnly-self statement machine
ChangesOnly-switch_unit statement (Some unit) target machine answers = ChangesOnly-jump statement machine machine (target unit) answers (ChangesOnly-self statement machine)

ChangesOnly-write_history : (statement : Stmt) (history : ℕ) (content : List (Option ℕ)) (rest : List Stmt) (machine : Machine) (answers : List Answer)
    → history_written statement ≡ Some history → ChangesOnly statement machine (machine_after (write_history history content rest machine answers))
ChangesOnly-write_history statement zero content rest machine answers writes = ChangesOnly-self statement machine
ChangesOnly-write_history statement (suc place) content rest machine answers writes = history_changed statement machine (suc place) content writes

ChangesOnly-back : (statement : Stmt) (offset : Option ℕ) (rest : List Stmt) (machine : Machine) (answers : List Answer)
    → moves_cursor statement ≡ true → ChangesOnly statement machine (machine_after (back offset rest machine answers))
ChangesOnly-back statement None rest machine answers moves = ChangesOnly-self statement machine
ChangesOnly-back statement (Some offset) rest machine answers moves = cursor_moved statement machine offset moves

ChangesOnly-come_back : (statement : Stmt) (blocks : List CodeBlock) (refills : List Refill) (machine : Machine) (limit : ℕ) (answers : List Answer)
    → is_refill statement ≡ true → changes_unit statement ≡ true
    → ChangesOnly statement machine (machine_after (come_back blocks refills (record machine { limit = limit }) answers))
ChangesOnly-come_back statement blocks refills machine limit answers asks reads =
    ChangesOnly-jump statement machine _ _ answers (refill_made statement machine _ None asks reads)

ChangesOnly-need : (blocks : List CodeBlock) (units : ℕ) (rest : List Stmt) (machine : Machine) (limit : ℕ) (answers : List Answer)
    → ChangesOnly (Need units) machine (machine_after (need blocks units rest (record machine { limit = limit }) answers))
ChangesOnly-need blocks units rest machine limit [] =
    ChangesOnly-if (Need units) machine (has_units units (record machine { limit = limit })) _ _
    (refill_made (Need units) machine limit machine.unit refl refl) (refill_made (Need units) machine limit machine.unit refl refl)
ChangesOnly-need blocks units rest machine limit (refilled (more dropped added) ∷ answers) =
    ChangesOnly-if (Need units) machine (has_units units (record machine { limit = limit })) _ _
    (refill_made (Need units) machine limit machine.unit refl refl) (ChangesOnly-need blocks units rest machine (limit + added) answers)
ChangesOnly-need blocks units rest machine limit (refilled no_more ∷ answers) =
    ChangesOnly-if (Need units) machine (has_units units (record machine { limit = limit })) _ _
    (refill_made (Need units) machine limit machine.unit refl refl) (refill_made (Need units) machine limit machine.unit refl refl)
ChangesOnly-need blocks units rest machine limit (left refills ∷ answers) =
    ChangesOnly-if (Need units) machine (has_units units (record machine { limit = limit })) _ _
    (refill_made (Need units) machine limit machine.unit refl refl) (ChangesOnly-come_back (Need units) blocks refills machine limit answers refl refl)

ChangesOnly-try : (blocks : List CodeBlock) (block : ℕ) (target : Option (List Stmt)) (rest : List Stmt) (machine : Machine) (answers : List Answer)
    → ChangesOnly (Try block) machine (machine_after (try blocks target rest machine answers))
ChangesOnly-try blocks block target rest machine [] = ChangesOnly-self (Try block) machine
ChangesOnly-try blocks block target rest machine (refilled (more dropped added) ∷ answers) =
    ChangesOnly-jump (Try block) machine _ target answers (refill_made (Try block) machine (machine.limit + added) machine.unit refl refl)
ChangesOnly-try blocks block target rest machine (refilled no_more ∷ answers) = ChangesOnly-self (Try block) machine
ChangesOnly-try blocks block target rest machine (left refills ∷ answers) = ChangesOnly-come_back (Try block) blocks refills machine machine.limit answers refl refl

module _ (piece : Piece) (stream : List ℕ) (rest : List Stmt) (machine : Machine) (answers : List Answer) where
  -- a statement changes only what it is for
  pub ChangesOnly-step : (statement : Stmt) → ChangesOnly statement machine (machine_after (step piece stream statement rest machine answers))
  ChangesOnly-step Peek = ChangesOnly-peek Peek _ rest machine answers refl
  ChangesOnly-step Skip = ChangesOnly-skip Skip _ rest machine answers refl
  ChangesOnly-step Backup = marker_moved Backup machine _ refl
  ChangesOnly-step Restore = cursor_moved Restore machine _ refl
  ChangesOnly-step (Accept accept) = accept_kept (Accept accept) machine _ refl
  ChangesOnly-step (Set register) = register_changed (Set register) machine register _ refl
  ChangesOnly-step (Unset register) = register_changed (Unset register) machine register _ refl
  ChangesOnly-step (Copy register source) = register_changed (Copy register source) machine register _ refl
  ChangesOnly-step (MSet history) = ChangesOnly-write_history (MSet history) history _ rest machine answers refl
  ChangesOnly-step (MUnset history) = ChangesOnly-write_history (MUnset history) history _ rest machine answers refl
  ChangesOnly-step (MCopy history source) = ChangesOnly-write_history (MCopy history source) history _ rest machine answers refl
  ChangesOnly-step (IfUnit greatest block) = ChangesOnly-if_unit (IfUnit greatest block) machine.unit _ _ rest machine answers
  ChangesOnly-step (IfIs unit block) = ChangesOnly-if_unit (IfIs unit block) machine.unit _ _ rest machine answers
  ChangesOnly-step (IfSet set block) = ChangesOnly-if_unit (IfSet set block) machine.unit _ _ rest machine answers
  ChangesOnly-step (IfAccept accept block) = ChangesOnly-choose (IfAccept accept block) _ _ rest machine answers
  ChangesOnly-step (IfEnd block) = ChangesOnly-choose (IfEnd block) _ _ rest machine answers
  ChangesOnly-step (State state) = state_stored (State state) machine _ refl
  ChangesOnly-step (Need units) = ChangesOnly-need piece.blocks units rest machine machine.limit answers
  ChangesOnly-step (Try block) = ChangesOnly-try piece.blocks block _ rest machine answers
  ChangesOnly-step (Cond cond) = condition_set (Cond cond) machine _ _ refl refl
  ChangesOnly-step (Tag tag true history) = value_given (Tag tag true history) machine _ refl
  ChangesOnly-step (Tag tag false register) = value_given (Tag tag false register) machine _ refl
  ChangesOnly-step (Count groups) = value_given (Count groups) machine _ refl
  ChangesOnly-step (End place register) = value_given (End place register) machine _ refl
  ChangesOnly-step (Back register) = ChangesOnly-back (Back register) (machine.registers register) rest machine answers refl
  ChangesOnly-step (Switch cases last) = ChangesOnly-switch_unit (Switch cases last) machine.unit _ machine answers
  ChangesOnly-step (Goto block) = ChangesOnly-jump (Goto block) machine machine _ answers (ChangesOnly-self (Goto block) machine)
  ChangesOnly-step Leave = ChangesOnly-self Leave machine
  ChangesOnly-step (Code rule line action) = ChangesOnly-self (Code rule line action) machine
  ChangesOnly-step (Jump cond rule) = ChangesOnly-self (Jump cond rule) machine

-- ---- the answers

answers_after-jump : (target : Option (List Stmt)) (machine : Machine) (answers : List Answer) → answers_after answers (jump target machine answers) ≡ answers
answers_after-jump None machine answers = refl
answers_after-jump (Some code) machine answers = refl

answers_after-choose : (test : Bool) (target : Option (List Stmt)) (rest : List Stmt) (machine : Machine) (answers : List Answer)
    → answers_after answers (choose test target rest machine answers) ≡ answers
answers_after-choose true target rest machine answers = answers_after-jump target machine answers
answers_after-choose false target rest machine answers = refl

answers_after-if_unit : (unit : Option ℕ) (test : ℕ → Bool) (target : Option (List Stmt)) (rest : List Stmt) (machine : Machine) (answers : List Answer)
    → answers_after answers (if_unit unit test target rest machine answers) ≡ answers
answers_after-if_unit None test target rest machine answers = refl
answers_after-if_unit (Some unit) test target rest machine answers = answers_after-choose _ target rest machine answers

answers_after-switch_unit : (unit : Option ℕ) (target : ℕ → Option (List Stmt)) (machine : Machine) (answers : List Answer)
    → answers_after answers (switch_unit unit target machine answers) ≡ answers
answers_after-switch_unit None target machine answers = refl
answers_after-switch_unit (Some unit) target machine answers = answers_after-jump (target unit) machine answers

answers_after-peek : (unit : Option ℕ) (rest : List Stmt) (machine : Machine) (answers : List Answer) → answers_after answers (peek unit rest machine answers) ≡ answers
answers_after-peek None rest machine answers = refl
answers_after-peek (Some unit) rest machine answers = refl

answers_after-skip : (before_limit : Bool) (rest : List Stmt) (machine : Machine) (answers : List Answer) → answers_after answers (skip before_limit rest machine answers) ≡ answers
answers_after-skip true rest machine answers = refl
answers_after-skip false rest machine answers = refl

answers_after-write_history : (history : ℕ) (content : List (Option ℕ)) (rest : List Stmt) (machine : Machine) (answers : List Answer)
    → answers_after answers (write_history history content rest machine answers) ≡ answers
answers_after-write_history zero content rest machine answers = refl
answers_after-write_history (suc place) content rest machine answers = refl

answers_after-back : (offset : Option ℕ) (rest : List Stmt) (machine : Machine) (answers : List Answer) → answers_after answers (back offset rest machine answers) ≡ answers
answers_after-back None rest machine answers = refl
answers_after-back (Some offset) rest machine answers = refl

module _ (piece : Piece) (stream : List ℕ) (rest : List Stmt) (machine : Machine) (answers : List Answer) where
  -- only a refill takes answers
  pub answers_after-step : (statement : Stmt) → is_refill statement ≡ false → answers_after answers (step piece stream statement rest machine answers) ≡ answers
  answers_after-step Peek asks = answers_after-peek _ rest machine answers
  answers_after-step Skip asks = answers_after-skip _ rest machine answers
  answers_after-step Backup asks = refl
  answers_after-step Restore asks = refl
  answers_after-step (Accept accept) asks = refl
  answers_after-step (Set register) asks = refl
  answers_after-step (Unset register) asks = refl
  answers_after-step (Copy register source) asks = refl
  answers_after-step (MSet history) asks = answers_after-write_history history _ rest machine answers
  answers_after-step (MUnset history) asks = answers_after-write_history history _ rest machine answers
  answers_after-step (MCopy history source) asks = answers_after-write_history history _ rest machine answers
  answers_after-step (IfUnit greatest block) asks = answers_after-if_unit machine.unit _ _ rest machine answers
  answers_after-step (IfIs unit block) asks = answers_after-if_unit machine.unit _ _ rest machine answers
  answers_after-step (IfSet set block) asks = answers_after-if_unit machine.unit _ _ rest machine answers
  answers_after-step (IfAccept accept block) asks = answers_after-choose _ _ rest machine answers
  answers_after-step (IfEnd block) asks = answers_after-choose _ _ rest machine answers
  answers_after-step (State state) asks = refl
  answers_after-step (Need units) asks = absurd (false≢true (sym asks))
  answers_after-step (Try block) asks = absurd (false≢true (sym asks))
  answers_after-step (Cond cond) asks = refl
  answers_after-step (Tag tag true history) asks = refl
  answers_after-step (Tag tag false register) asks = refl
  answers_after-step (Count groups) asks = refl
  answers_after-step (End place register) asks = refl
  answers_after-step (Back register) asks = answers_after-back (machine.registers register) rest machine answers
  answers_after-step (Switch cases last) asks = answers_after-switch_unit machine.unit _ machine answers
  answers_after-step (Goto block) asks = answers_after-jump _ machine answers
  answers_after-step Leave asks = refl
  answers_after-step (Code rule line action) asks = refl
  answers_after-step (Jump cond rule) asks = refl
