-- The machine that the stepper keeps, and what one step of it is.
use Rattle.std.specs.Prelude.{◌≡◌, ◌≤◌, ◌<◌, ℕ, List, [], ◌∷◌, ◌++◌, length, true, false, IfSome, Option, Some, None, slice_index_or}
use Rattle.lx_ccode.specs.declared.piece.CodeBlock.{CodeBlock}
use Rattle.lx_ccode.specs.declared.piece.CondCase.{CondCase}
use Rattle.lx_ccode.specs.declared.piece.Piece.{Piece}
use Rattle.lx_ccode.specs.declared.piece.Stmt.{Stmt}
use Rattle.lx_ccode.specs.declared.piece.Stmt.TheVariants.{State, Tag, Count, End, Cond}
use Rattle.lx_ccode.specs.Machine.{Answer, Value, tag_offset, tag_history, group_count, group_end, condition, Machine, Next, goes_on, ends, jump, code_at, step, updated}
use Rattle.lx_ccode.specs.Machine as machine
use Rattle.lx_ccode.specs.Statements.{all_statements}
use Rattle.lx_step.specs.declared.answers.Outcome.{Outcome}
use Rattle.lx_step.specs.declared.answers.Outcome.TheVariants as outcome
use Rattle.lx_step.specs.declared.scanner.Going.{Going}
use Rattle.lx_step.specs.declared.scanner.Going.TheVariants as going
use Rattle.lx_step.specs.declared.scanner.Scanner.{Scanner}
use Rattle.lx_step.specs.declared.numbers.Sort.TheVariants.{Register, History}
use Rattle.lx_step.specs.Assigned.{target}
use Rattle.lx_step.specs.Conds.{IsCond, cond_name}
use Rattle.lx_step.specs.Given.{Given, after_value}
use Rattle.lx_step.specs.Left.{IsBehind, IsFrom}
use Rattle.lx_step.specs.Numbers.{IsNumberingOf, numbers_in, numbers_of, place_of}
use Rattle.lx_step.specs.Sizes.{groups_of, groups_of_all}
use Rattle.lx_step.specs.Tags.{tag_names}

-- the content of a register by its place; nothing where there is no such place
abbrev pub register_in : List (Option ℕ) → ℕ → Option ℕ
register_in registers register = slice_index_or registers register None

-- the content of a history by its place; the empty one where there is no such place
abbrev pub history_of : List (List (Option ℕ)) → ℕ → List (Option ℕ)
history_of histories history = slice_index_or histories history []

-- the content of a register, by its number
abbrev pub content_of : Scanner → (register : ℕ) → Option ℕ
content_of scanner register = register_in scanner.registers.items (place_of scanner.numbering.registers.keys register)

-- the content of a history, by its number
abbrev pub history_at : Scanner → (history : ℕ) → List (Option ℕ)
history_at scanner history = history_of scanner.histories (place_of scanner.numbering.histories.keys history)

-- the machine of a piece with these conditions, with the values that it gave in this match
abbrev pub machine_of : List CondCase → Scanner → List Value → Machine
machine_of conds scanner values = record {
  cursor = scanner.cursor;
  marker = scanner.marker;
  limit = scanner.limit;
  unit = scanner.unit;
  accept = scanner.accept;
  registers = content_of scanner;
  histories = history_at scanner;
  cond = cond_name conds scanner.cond;
  state = scanner.state;
  values = values;
}

-- the outcome of the machine; a lexer that is spent or without memory answers none of it
abbrev pub outcome_of : Outcome → machine.Outcome
outcome_of (outcome.Rule number) = machine.by_rule number
outcome_of (outcome.Jump number) = machine.by_jump number
outcome_of outcome.NoRule = machine.no_rule
outcome_of outcome.End = machine.at_end
outcome_of outcome.Stuck = machine.stuck
outcome_of outcome.Loop = machine.looped
outcome_of _ = machine.unanswered

-- what comes after a step that takes no answer
abbrev pub next_of : List CodeBlock → (rest : List Stmt) → Going → Machine → List Answer → Next
next_of blocks rest going.Next machine answers = goes_on rest machine answers
next_of blocks rest (going.To block) machine answers = jump (code_at blocks (Some block)) machine answers
next_of blocks rest (going.Ends outcome) machine answers = ends (outcome_of outcome) machine

-- an outcome by which a step may end a match
abbrev pub IsAnswer : Outcome → Type 0
IsAnswer outcome.NeedFill = ⊥
IsAnswer (outcome.WindowFull kept need size) = ⊥
IsAnswer outcome.ReadFailed = ⊥
IsAnswer outcome.Loop = ⊥
IsAnswer outcome.Spent = ⊥
IsAnswer outcome.Memory = ⊥
IsAnswer _ = Unit {0}

-- the step goes to this block, to the next statement where there is none, or it ends the match
abbrev pub Leads : Going → Option ℕ → Type 0
Leads going.Next block = block ≡ None
Leads (going.To other) block = block ≡ Some other
Leads (going.Ends outcome) block = IsAnswer outcome

-- the values with that which the statement gives
abbrev pub values_after : Stmt → Machine → List Value → List Value
values_after (Tag tag false register) machine values = values ++ tag_offset tag (machine.registers register) ∷ []
values_after (Tag tag true history) machine values = values ++ tag_history tag (machine.histories history) ∷ []
values_after (Count groups) machine values = values ++ group_count groups ∷ []
values_after (End place register) machine values = values ++ group_end place (machine.registers register) ∷ []
values_after (Cond cond) machine values = values ++ condition cond ∷ []
values_after _ machine values = values

-- what is kept after that value, where these are the names of the tags
abbrev pub given_after : (names : List (List ℕ)) → Stmt → Machine → Given → Given
given_after names (Tag tag false register) machine given = after_value names (tag_offset tag (machine.registers register)) given
given_after names (Tag tag true history) machine given = after_value names (tag_history tag (machine.histories history)) given
given_after names (Count groups) machine given = after_value names (group_count groups) given
given_after names (End place register) machine given = after_value names (group_end place (machine.registers register)) given
given_after names _ machine given = given

-- the same registers and histories as before
pub record KeepsTables (old new : Scanner) : Type 0 where
  pub numbering : new.numbering ≡ old.numbering
  pub registers : length new.registers.items ≡ length old.registers.items
  pub histories : length new.histories ≡ length old.histories

-- values of as many tags and groups as before
pub record KeepsLengths (old new : Given) : Type 0 where
  pub offsets : length new.offsets ≡ length old.offsets
  pub histories : length new.histories ≡ length old.histories
  pub entries : length new.entries ≡ length old.entries

-- only a register gets another content
pub record SetsRegister (old new : Scanner) (register : ℕ) (value : Option ℕ) : Type 0 where
  pub state : new.state ≡ old.state
  pub from : (start : ℕ) → IsBehind start value → IsFrom start old → IsFrom start new
  pub machine : (conds : List CondCase) (values : List Value) → machine_of conds new values ≡ record (machine_of conds old values) { registers = updated register value (content_of old) }
  pub tables : KeepsTables old new
  pub cond : new.cond ≡ old.cond

-- the state that is stored after the statement
abbrev pub state_after : Stmt → Option ℕ → Option ℕ
state_after (State state) before = Some state
state_after _ before = before

-- from the old to the new scanner the machine made the statement, on any piece with this unit at the buffer's end, this table and these conditions
pub record IsStep (stream : List ℕ) (eof : Option ℕ) (table : List ℕ) (conds : List CondCase) (statement : Stmt) (old new : Scanner) (going : Going) : Type 0 where
  pub step : (piece : Piece) (rest : List Stmt) (values : List Value) (answers : List Answer) → piece.eof ≡ eof → piece.table ≡ table →
      step piece stream statement rest (machine_of conds old values) answers
      ≡ next_of piece.blocks rest going (machine_of conds new (values_after statement (machine_of conds old values) values)) answers
  pub leads : (values : List Value) → Leads going (target table statement (machine_of conds old values))
  pub tables : KeepsTables old new
  pub limit : new.limit ≡ old.limit
  pub cond : IsCond conds old.cond → IsCond conds new.cond
  pub state : new.state ≡ state_after statement old.state
  pub from : (start : ℕ) → IsFrom start old → IsFrom start new

-- what a step is on any stream
pub record Moves (table : List ℕ) (conds : List CondCase) (statement : Stmt) (old new : Scanner) (going : Going) : Type 0 where
  pub leads : (values : List Value) → Leads going (target table statement (machine_of conds old values))
  pub tables : KeepsTables old new
  pub limit : new.limit ≡ old.limit
  pub cond : IsCond conds old.cond → IsCond conds new.cond
  pub state : new.state ≡ state_after statement old.state
  pub from : (start : ℕ) → IsFrom start old → IsFrom start new

-- the place of a number, where there is one, is within so many
abbrev pub IsPlaced : List ℕ → (count : ℕ) → Option ℕ → Type 0
IsPlaced numbers count number = IfSome number (λ one. place_of numbers one < count)

-- the tables have room for what the statement names
pub record HasRoomFor (statement : Stmt) (scanner : Scanner) (given : Given) : Type 0 where
  pub register : IsPlaced scanner.numbering.registers.keys (length scanner.registers.items) (numbers_in Register statement).0
  pub source : IsPlaced scanner.numbering.registers.keys (length scanner.registers.items) (numbers_in Register statement).1
  pub history : IsPlaced scanner.numbering.histories.keys (length scanner.histories) (numbers_in History statement).0
  pub other : IsPlaced scanner.numbering.histories.keys (length scanner.histories) (numbers_in History statement).1
  pub groups : groups_of statement ≤ length given.entries

-- the tables are those of a piece with these blocks
pub record HasTables (blocks : List CodeBlock) (scanner : Scanner) (given : Given) : Type 0 where
  pub numbering : IsNumberingOf blocks scanner.numbering
  pub registers : length scanner.registers.items ≡ length (numbers_of Register blocks)
  pub histories : length scanner.histories ≡ length (numbers_of History blocks)
  pub offsets : length given.offsets ≡ length (tag_names blocks)
  pub tag_histories : length given.histories ≡ length (tag_names blocks)
  pub entries : length given.entries ≡ groups_of_all (all_statements blocks)
