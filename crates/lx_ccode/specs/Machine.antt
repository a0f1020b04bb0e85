-- The machine that runs pieces: what it holds, and what each statement does.
use Rattle.std.specs.Prelude.{ℕ, zero, suc, ◌+◌, ◌-◌, ◌*◌, ◌/◌, ◌%◌, ◌^◌, List, [], ◌∷◌, ◌++◌, Option, Some, None, Bool, true, false, nat_lt, nat_le, ◌==◌, if◌then◌else◌, slice_get, slice_index}
use Rattle.std.specs.List.{list_any}
use Rattle.lx_ccode.specs.declared.piece.Stmt.{Stmt}
use Rattle.lx_ccode.specs.declared.piece.Stmt.TheVariants.{Peek, Skip, Backup, Restore, Accept, Set, Unset, Copy, MSet, MUnset, MCopy, IfUnit, IfIs, IfSet, IfAccept, IfEnd, State, Need, Try, Cond, Tag, Count, End, Back, Switch, Goto, Leave, Code, Jump}
use Rattle.lx_ccode.specs.declared.piece.CodeBlock.{CodeBlock}
use Rattle.lx_ccode.specs.declared.piece.SwitchCase.{SwitchCase}
use Rattle.lx_ccode.specs.declared.piece.Piece.{Piece}
use Rattle.lx_ccode.specs.Statements.{code_of}
use Rattle.lx_ccode.specs.States.{state_block}

-- what a statement gave to something of the user's: a tag an offset or a history, the count of groups, an end of a group, the condition
pub data Value : Type 0 where
  tag_offset : List ℕ → Option ℕ → Value
  tag_history : List ℕ → List (Option ℕ) → Value
  group_count : ℕ → Value
  group_end : ℕ → Option ℕ → Value
  condition : List ℕ → Value

-- what the machine holds beside the start of the match; offsets count units from the stream's beginning
pub record Machine : Type 0 where
  pub cursor : ℕ
  pub marker : ℕ
  -- where the units of the buffer end
  pub limit : ℕ
  -- the unit that was read last, if one was read since the match began or was come back to
  pub unit : Option ℕ
  -- the accepting state that was kept last
  pub accept : ℕ
  -- by the numbers of the statements: an offset or nothing
  pub registers : ℕ → Option ℕ
  -- by the numbers of the statements: offsets and negative events, in the order in which they were appended
  pub histories : ℕ → List (Option ℕ)
  pub cond : List ℕ
  -- the state that was stored last
  pub state : Option ℕ
  -- what was given in this match, in order
  pub values : List Value

-- what a refill does to the buffer: it drops units at the front and adds the next ones of the stream, or there are no more
pub data Refill : Type 0 where
  more : (dropped added : ℕ) → Refill
  no_more : Refill

-- the answer to a refill that was asked: it is made, or the scanner is left, and comes back after these refills
pub data Answer : Type 0 where
  refilled : Refill → Answer
  left : List Refill → Answer

-- how a match ends; it is unanswered where a refill is asked and no answer is given
pub data Outcome : Type 0 where
  by_rule : ℕ → Outcome
  by_jump : ℕ → Outcome
  no_rule : Outcome
  at_end : Outcome
  stuck : Outcome
  looped : Outcome
  unanswered : Outcome

-- after a step: what is left of the block, the machine, and the answers not yet given; or the end of the match
pub data Next : Type 0 where
  goes_on : List Stmt → Machine → List Answer → Next
  ends : Outcome → Machine → Next

-- ---- refills

-- the units that a refill adds
abbrev pub units_of : Refill → ℕ
units_of (more dropped added) = added
units_of no_more = 0

-- the units that refills add
abbrev pub units_of_all : List Refill → ℕ
units_of_all [] = 0
units_of_all (refill ∷ refills) = units_of refill + units_of_all refills

-- the units that answers add
abbrev pub units_of_answers : List Answer → ℕ
units_of_answers [] = 0
units_of_answers (refilled refill ∷ answers) = units_of refill + units_of_answers answers
units_of_answers (left refills ∷ answers) = units_of_all refills + units_of_answers answers

-- ---- jumps

-- on with the code of a block, or stuck where there is no such block
abbrev pub jump : Option (List Stmt) → Machine → List Answer → Next
jump None machine answers = ends stuck machine
jump (Some code) machine answers = goes_on code machine answers

-- the code of a block
abbrev pub code_at : List CodeBlock → Option ℕ → Option (List Stmt)
code_at blocks None = None
code_at blocks (Some block) = slice_get (code_of blocks) block

-- the block of the stored state
abbrev pub stored_block : List CodeBlock → Option ℕ → Option ℕ
stored_block blocks None = None
stored_block blocks (Some state) = state_block blocks state

-- to another block where the test holds, else on in this one
abbrev pub choose : Bool → Option (List Stmt) → List Stmt → Machine → List Answer → Next
choose true target rest machine answers = jump target machine answers
choose false target rest machine answers = goes_on rest machine answers

-- coming back after the scanner was left: at the block of the stored state, and without the unit that was read
abbrev pub come_back : List CodeBlock → List Refill → Machine → List Answer → Next
come_back blocks refills machine answers =
    jump (code_at blocks (stored_block blocks machine.state)) (record machine { unit = None; limit = machine.limit + units_of_all refills }) answers

-- ---- the statements that need more than a line

-- the function with another value at one place
abbrev pub updated : {A : Type 0} → ℕ → A → (ℕ → A) → ℕ → A
updated place value function at = if at == place then value else function at

-- the unit at an offset: the stream's before the limit, the piece's own at it, and none behind it
abbrev pub unit_at : (eof : Option ℕ) → List ℕ → (offset limit : ℕ) → Option ℕ
unit_at eof stream offset limit =
    if nat_lt offset limit then slice_get stream offset else (if offset == limit then eof else None)

-- the unit becomes the one that was read; stuck where there is none
abbrev pub peek : Option ℕ → List Stmt → Machine → List Answer → Next
peek None rest machine answers = ends stuck machine
peek (Some unit) rest machine answers = goes_on rest (record machine { unit = Some unit }) answers

-- one unit on, where one stands before the limit
abbrev pub skip : (before_limit : Bool) → List Stmt → Machine → List Answer → Next
skip true rest machine answers = goes_on rest (record machine { cursor = suc machine.cursor }) answers
skip false rest machine answers = ends stuck machine

-- a test of the unit; stuck where none was read
abbrev pub if_unit : Option ℕ → (test : ℕ → Bool) → Option (List Stmt) → List Stmt → Machine → List Answer → Next
if_unit None test target rest machine answers = ends stuck machine
if_unit (Some unit) test target rest machine answers = choose (test unit) target rest machine answers

-- the unit is in the set: the table has a byte for each unit up to 0xFF and each eight sets, of which each has a bit
abbrev pub is_among : (table : List ℕ) → (set unit : ℕ) → Bool
is_among table set unit =
    if nat_le unit 0xFF then ((slice_index table (256 * (set / 8) + unit) / 2 ^ (set % 8)) % 2) == 1 else false

-- the unit stands in the list
abbrev pub has_unit : List ℕ → (unit : ℕ) → Bool
has_unit units unit = list_any (λ other. other == unit) units

-- the block of the case that has the unit, or else the last block
abbrev pub case_block : List SwitchCase → (last unit : ℕ) → ℕ
case_block [] last unit = last
case_block (case ∷ cases) last unit = if has_unit case.units unit then case.block else case_block cases last unit

-- a jump by the unit; stuck where none was read
abbrev pub switch_unit : Option ℕ → (target : ℕ → Option (List Stmt)) → Machine → List Answer → Next
switch_unit None target machine answers = ends stuck machine
switch_unit (Some unit) target machine answers = jump (target unit) machine answers

-- a history gets another content; history 0 is never written
abbrev pub write_history : (history : ℕ) → List (Option ℕ) → List Stmt → Machine → List Answer → Next
write_history zero content rest machine answers = ends stuck machine
write_history (suc place) content rest machine answers =
    goes_on rest (record machine { histories = updated (suc place) content machine.histories }) answers

-- the cursor goes back to an offset; stuck where there is none
abbrev pub back : Option ℕ → List Stmt → Machine → List Answer → Next
back None rest machine answers = ends stuck machine
back (Some offset) rest machine answers = goes_on rest (record machine { cursor = offset }) answers

-- so many units stand between the cursor and the limit
abbrev pub has_units : ℕ → Machine → Bool
has_units units machine = nat_le units (machine.limit - machine.cursor)

-- asks until so many units are there, or there are no more, or the scanner is left
abbrev pub need : List CodeBlock → (units : ℕ) → List Stmt → Machine → List Answer → Next
need blocks units rest machine [] =
    if has_units units machine then goes_on rest machine [] else ends unanswered machine
need blocks units rest machine (refilled (more dropped added) ∷ answers) =
    if has_units units machine then goes_on rest machine (refilled (more dropped added) ∷ answers)
    else need blocks units rest (record machine { limit = machine.limit + added }) answers
need blocks units rest machine (refilled no_more ∷ answers) =
    if has_units units machine then goes_on rest machine (refilled no_more ∷ answers) else ends at_end machine
need blocks units rest machine (left refills ∷ answers) =
    if has_units units machine then goes_on rest machine (left refills ∷ answers) else come_back blocks refills machine answers

-- asks once: to another block where units were added, on where there are no more
abbrev pub try : List CodeBlock → Option (List Stmt) → List Stmt → Machine → List Answer → Next
try blocks target rest machine [] = ends unanswered machine
try blocks target rest machine (refilled (more dropped added) ∷ answers) =
    jump target (record machine { limit = machine.limit + added }) answers
try blocks target rest machine (refilled no_more ∷ answers) = goes_on rest machine answers
try blocks target rest machine (left refills ∷ answers) = come_back blocks refills machine answers

-- the machine with a value more
abbrev pub given : Value → Machine → Machine
given value machine = record machine { values = machine.values ++ value ∷ [] }

-- ---- one step

-- one statement on a stream, with the rest of its block and the answers not yet given
abbrev pub step : Piece → List ℕ → Stmt → List Stmt → Machine → List Answer → Next
step piece stream Peek rest machine answers = peek (unit_at piece.eof stream machine.cursor machine.limit) rest machine answers
step piece stream Skip rest machine answers = skip (nat_lt machine.cursor machine.limit) rest machine answers
step piece stream Backup rest machine answers = goes_on rest (record machine { marker = machine.cursor }) answers
step piece stream Restore rest machine answers = goes_on rest (record machine { cursor = machine.marker }) answers
step piece stream (Accept accept) rest machine answers = goes_on rest (record machine { accept = accept }) answers
step piece stream (Set register) rest machine answers =
    goes_on rest (record machine { registers = updated register (Some machine.cursor) machine.registers }) answers
step piece stream (Unset register) rest machine answers =
    goes_on rest (record machine { registers = updated register None machine.registers }) answers
step piece stream (Copy register source) rest machine answers =
    goes_on rest (record machine { registers = updated register (machine.registers source) machine.registers }) answers
step piece stream (MSet history) rest machine answers =
    write_history history (machine.histories history ++ Some machine.cursor ∷ []) rest machine answers
step piece stream (MUnset history) rest machine answers =
    write_history history (machine.histories history ++ None ∷ []) rest machine answers
step piece stream (MCopy history source) rest machine answers = write_history history (machine.histories source) rest machine answers
step piece stream (IfUnit greatest block) rest machine answers =
    if_unit machine.unit (λ unit. nat_le unit greatest) (code_at piece.blocks (Some block)) rest machine answers
step piece stream (IfIs unit block) rest machine answers =
    if_unit machine.unit (λ read. read == unit) (code_at piece.blocks (Some block)) rest machine answers
step piece stream (IfSet set block) rest machine answers =
    if_unit machine.unit (is_among piece.table set) (code_at piece.blocks (Some block)) rest machine answers
step piece stream (IfAccept accept block) rest machine answers =
    choose (machine.accept == accept) (code_at piece.blocks (Some block)) rest machine answers
step piece stream (IfEnd block) rest machine answers =
    choose (nat_le machine.limit machine.cursor) (code_at piece.blocks (Some block)) rest machine answers
step piece stream (State state) rest machine answers = goes_on rest (record machine { state = Some state }) answers
step piece stream (Need units) rest machine answers = need piece.blocks units rest machine answers
step piece stream (Try block) rest machine answers = try piece.blocks (code_at piece.blocks (Some block)) rest machine answers
step piece stream (Cond cond) rest machine answers = goes_on rest (given (condition cond) (record machine { cond = cond })) answers
step piece stream (Tag tag false register) rest machine answers = goes_on rest (given (tag_offset tag (machine.registers register)) machine) answers
step piece stream (Tag tag true history) rest machine answers = goes_on rest (given (tag_history tag (machine.histories history)) machine) answers
step piece stream (Count groups) rest machine answers = goes_on rest (given (group_count groups) machine) answers
step piece stream (End place register) rest machine answers = goes_on rest (given (group_end place (machine.registers register)) machine) answers
step piece stream (Back register) rest machine answers = back (machine.registers register) rest machine answers
step piece stream (Switch cases last) rest machine answers =
    switch_unit machine.unit (λ unit. code_at piece.blocks (Some (case_block cases last unit))) machine answers
step piece stream (Goto block) rest machine answers = jump (code_at piece.blocks (Some block)) machine answers
step piece stream Leave rest machine answers = ends no_rule machine
step piece stream (Code rule line action) rest machine answers = ends (by_rule rule) machine
step piece stream (Jump cond rule) rest machine answers = ends (by_jump rule) machine
