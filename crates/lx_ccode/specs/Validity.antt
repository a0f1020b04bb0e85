-- Which pieces are valid: those that the generator may emit and that a reader of outputs takes.
use Rattle.std.specs.Prelude.{◌++◌, ◌≡◌, ℕ, zero, suc, ◌<◌, ◌*◌, ◌≤◌, ◌^◌, ◌⊎◌, IfSome, Bool, true, false, List, [], ◌∷◌, length, map, Option, Some, None, ◌||◌, if◌then◌else◌}
use Rattle.std.specs.List.{AllByRecursion, list_any}
use Rattle.lx_base.specs.declared.limits.TheConstants.{STATEMENT_LIMIT}
use Rattle.lx_base.specs.Letters.{IsIdentifier, equal_words}
use Rattle.lx_base.specs.Names.{Spellings, AreAllowed, DoNotClash, AreDistinct, IsTagName}
use Rattle.lx_base.specs.Names.{name_primitives, name_table}
use Rattle.lx_ccode.specs.declared.piece.LineMark.{LineMark}
use Rattle.lx_ccode.specs.declared.piece.Stmt.{Stmt}
use Rattle.lx_ccode.specs.declared.piece.Stmt.TheVariants.{Peek, Skip, Backup, Restore, Accept, Set, Unset, Copy, MSet, MUnset, MCopy, IfUnit, IfIs, IfSet, IfAccept, IfEnd, State, Need, Try, Cond, Tag, Count, End, Back, Switch, Goto, Leave, Code, Jump}
use Rattle.lx_ccode.specs.declared.piece.StateCase.{StateCase}
use Rattle.lx_ccode.specs.declared.piece.CodeBlock.{CodeBlock}
use Rattle.lx_ccode.specs.declared.piece.SwitchCase.{SwitchCase}
use Rattle.lx_ccode.specs.declared.piece.Piece.{Piece}
use Rattle.lx_ccode.specs.Agreement.{Agrees}
use Rattle.lx_ccode.specs.Counts.{table_size}
use Rattle.lx_ccode.specs.Heads.{is_custom, is_three}
use Rattle.lx_ccode.specs.Labels.{is_like_block}
use Rattle.lx_ccode.specs.States.{states_from, block_of, state_block}
use Rattle.lx_ccode.specs.Statements.{all_statements, statement_count, is_ending, is_of_three, is_state, is_switch, is_need, is_try, is_refill, has_register_one, names_table, targets}

-- a number of a text, which has at most 4,294,967,295
abbrev pub IsShort : ℕ → Type 0
IsShort number = number < 2 ^ 32

-- the number of a block or of a state
abbrev pub IsLong : ℕ → Type 0
IsLong number = number < 2 ^ 64

-- the number of a register: registers are counted from 1
abbrev pub IsRegister : ℕ → Type 0
IsRegister register = (0 < register) × IsShort register

-- the line of a mark, where there is one, has a spelling
abbrev pub IsLine : Option LineMark → Type 0
IsLine None = Unit {0}
IsLine (Some mark) = IsShort mark.line

abbrev pub IsByte : ℕ → Type 0
IsByte number = number < 256

-- no unit stands twice
abbrev pub AreUnitsOnce : List ℕ → Type 0
AreUnitsOnce [] = Unit {0}
AreUnitsOnce (unit ∷ units) = AllByRecursion (λ other. other ≡ unit → ⊥) units × AreUnitsOnce units

-- the units of all cases, in order
abbrev pub units_of : List SwitchCase → List ℕ
units_of [] = []
units_of (case ∷ cases) = case.units ++ units_of cases

-- the case has a unit, and each of its units is one byte
pub record IsSwitchCase (case : SwitchCase) : Type 0 where
  pub some : 0 < length case.units
  pub bytes : AllByRecursion IsByte case.units
  pub block : IsLong case.block

-- a switch over units has a case, and no unit stands twice
pub record AreSwitchCases (cases : List SwitchCase) : Type 0 where
  pub some : 0 < length cases
  pub each : AllByRecursion IsSwitchCase cases
  pub once : AreUnitsOnce (units_of cases)

-- the statement has a spelling: its numbers are in range, its names are identifiers, and a user's tag is no other variable
abbrev pub HasSpelling : Spellings → Stmt → Type 0
HasSpelling names Peek = Unit {0}
HasSpelling names Skip = Unit {0}
HasSpelling names Backup = Unit {0}
HasSpelling names Restore = Unit {0}
HasSpelling names (Accept accept) = IsShort accept
HasSpelling names (Set register) = IsRegister register
HasSpelling names (Unset register) = IsRegister register
HasSpelling names (Copy register source) = IsRegister register × IsRegister source
HasSpelling names (MSet history) = IsShort history
HasSpelling names (MUnset history) = IsShort history
HasSpelling names (MCopy history source) = IsShort history × IsShort source
HasSpelling names (IfUnit greatest block) = IsShort greatest × IsLong block
HasSpelling names (IfIs unit block) = IsShort unit × IsLong block
HasSpelling names (IfSet set block) = IsShort set × IsLong block
HasSpelling names (IfAccept accept block) = IsShort accept × IsLong block
HasSpelling names (IfEnd block) = IsLong block
HasSpelling names (State state) = IsLong state
HasSpelling names (Need units) = IsShort units
HasSpelling names (Try block) = IsLong block
HasSpelling names (Cond cond) = IsIdentifier cond
HasSpelling names (Tag tag true history) = IsTagName names tag × IsShort history
HasSpelling names (Tag tag false register) = IsTagName names tag × IsRegister register
HasSpelling names (Count groups) = IsShort groups
HasSpelling names (End place register) = IsShort place × IsRegister register
HasSpelling names (Back register) = IsRegister register
HasSpelling names (Switch cases last) = AreSwitchCases cases × IsLong last
HasSpelling names (Goto block) = IsLong block
HasSpelling names Leave = Unit {0}
HasSpelling names (Code rule line action) = IsShort rule × IsLine line × IsShort (length action)
HasSpelling names (Jump cond rule) = IsIdentifier cond × IsShort rule

-- each statement has a spelling
abbrev pub EachHasSpelling : Spellings → List Stmt → Type 0
EachHasSpelling names [] = Unit {0}
EachHasSpelling names (statement ∷ statements) = HasSpelling names statement × EachHasSpelling names statements

-- a condition's name, where there is one, is an identifier
abbrev pub IsLabel : Option (List ℕ) → Type 0
IsLabel None = Unit {0}
IsLabel (Some cond) = IsIdentifier cond

-- each block has at least one statement, and each of its lines a spelling
abbrev pub EachBlockHasSpelling : Spellings → List CodeBlock → Type 0
EachBlockHasSpelling names [] = Unit {0}
EachBlockHasSpelling names (block ∷ blocks) =
    ((0 < length block.stmts) × IsLabel block.cond × EachHasSpelling names block.stmts) × EachBlockHasSpelling names blocks

-- where the statement jumps, it jumps to one of so many blocks
abbrev pub JumpsBelow : (blocks : ℕ) → Stmt → Type 0
JumpsBelow blocks statement = AllByRecursion (λ block. block < blocks) (targets statement)

-- the last statement, and no other, is Switch, Goto, Leave, Code or Jump
abbrev pub ends_once : List Stmt → Bool
ends_once [] = false
ends_once (statement ∷ []) = is_ending statement
ends_once (statement ∷ next ∷ statements) = if is_ending statement then false else ends_once (next ∷ statements)

-- the first statement asks for a refill
abbrev pub refill_first : List Stmt → Bool
refill_first [] = false
refill_first (statement ∷ statements) = is_refill statement

-- directly behind each State stands a Need or a Try
abbrev pub refills_after_states : List Stmt → Bool
refills_after_states [] = true
refills_after_states (statement ∷ statements) =
    if (if is_state statement then refill_first statements else true) then refills_after_states statements else false

-- directly before each Need and each Try stands a State; the truth value says whether one stands before the first statement
abbrev pub states_before_refills : (after_state : Bool) → List Stmt → Bool
states_before_refills after_state [] = true
states_before_refills after_state (statement ∷ statements) =
    if (if is_refill statement then after_state else true) then states_before_refills (is_state statement) statements else false

-- a Try stands directly behind a State; the truth value says whether one stands before the first statement
abbrev pub tries_after_state : (after_state : Bool) → List Stmt → Bool
tries_after_state after_state [] = false
tries_after_state after_state (statement ∷ statements) =
    (if after_state then is_try statement else false) || tries_after_state (is_state statement) statements

-- the statements of the last block
abbrev pub last_statements : List CodeBlock → List Stmt
last_statements [] = []
last_statements (block ∷ []) = block.stmts
last_statements (block ∷ next ∷ blocks) = last_statements (next ∷ blocks)

-- the states stand in order, each once
abbrev pub AreAscending : List StateCase → Type 0
AreAscending [] = Unit {0}
AreAscending (case ∷ cases) = AllByRecursion (λ other. case.state < other.state) cases × AreAscending cases

-- no state stands twice
abbrev pub AreOnce : List StateCase → Type 0
AreOnce [] = Unit {0}
AreOnce (case ∷ cases) = AllByRecursion (λ other. other.state ≡ case.state → ⊥) cases × AreOnce cases

-- the cases of the switch are the states of the blocks, in order
abbrev pub IsStateSwitch : List CodeBlock → List StateCase → Type 0
IsStateSwitch blocks cases = AreAscending cases × ((state : ℕ) → block_of cases state ≡ state_block blocks state)

abbrev pub onto_labels : Option (List ℕ) → List (List ℕ) → List (List ℕ)
onto_labels None labels = labels
onto_labels (Some label) labels = label ∷ labels

-- the conditions that blocks are starts of, in order
abbrev pub labels : List CodeBlock → List (List ℕ)
labels [] = []
labels (block ∷ blocks) = onto_labels block.cond (labels blocks)

-- the condition that the block at a place is the start of
abbrev pub label_of : List CodeBlock → ℕ → Option (List ℕ)
label_of [] place = None
label_of (block ∷ blocks) zero = block.cond
label_of (block ∷ blocks) (suc place) = label_of blocks place

-- a condition that the statement sets or goes to is one of these
abbrev pub NamesOneOf : List (List ℕ) → Stmt → Type 0
NamesOneOf conds (Cond cond) = list_any (equal_words cond) conds ≡ true
NamesOneOf conds (Jump cond rule) = list_any (equal_words cond) conds ≡ true
NamesOneOf conds _ = Unit {0}

-- a rule has at most 64 groups beside itself, and two ends for each
abbrev pub HasFewGroups : Stmt → Type 0
HasFewGroups (Count groups) = groups ≤ 65
HasFewGroups (End place register) = place ≤ 129
HasFewGroups _ = Unit {0}

-- what the widths of the fields say, and that conditions are identifiers
pub record IsInRange (piece : Piece) : Type 0 where
  pub number : IsShort piece.number
  pub line : IsLine piece.line
  pub states : IfSome piece.states (λ cases. AllByRecursion (λ case. IsLong case.state × IsLong case.block) cases)
  pub conds : AllByRecursion (λ case. IsIdentifier case.cond × IsLong case.block) piece.conds
  pub head : IfSome piece.head (λ head. IsShort head.regs × IsShort head.mregs × IsLong head.states)
  pub table : AllByRecursion IsByte piece.table

-- the rules that an emitted piece meets
pub record IsValid (piece : Piece) : Type 0 where
  pub range : IsInRange piece
  -- a unit has one, two or four bytes
  pub unit : (piece.unit ≡ 1) ⊎ ((piece.unit ≡ 2) ⊎ (piece.unit ≡ 4))
  -- the unit at the buffer's end is a unit
  pub eof : IfSome piece.eof (λ eof. eof < 2 ^ (8 * piece.unit))
  -- there is a block
  pub blocks : 0 < length piece.blocks
  -- there are at most 2^62 statements
  pub statements : statement_count piece.blocks ≤ STATEMENT_LIMIT
  -- every jump goes to a block of the piece
  pub jumps : AllByRecursion (JumpsBelow (length piece.blocks)) (all_statements piece.blocks)
  -- the last statement of a block, and no other, is Switch, Goto, Leave, Code or Jump
  pub ends : AllByRecursion (λ block. ends_once block.stmts ≡ true) piece.blocks
  -- a piece asks for refills in one way only
  pub one_refill : (list_any is_need (all_statements piece.blocks) ≡ false) ⊎ (list_any is_try (all_statements piece.blocks) ≡ false)
  -- no state is stored at two places
  pub states_differ : AreOnce (states_from 0 piece.blocks)
  -- directly behind a State stands a Need or a Try
  pub after_states : AllByRecursion (λ block. refills_after_states block.stmts ≡ true) piece.blocks
  -- in a piece with states, a State stands directly before each Need and each Try
  pub before_refills : list_any is_state (all_statements piece.blocks) ≡ true → AllByRecursion (λ block. states_before_refills false block.stmts ≡ true) piece.blocks
  -- a block in which a Try follows a State is not the last one
  pub next_block : tries_after_state false (last_statements piece.blocks) ≡ false
  -- the state switch has exactly the piece's states
  pub state_switch : IfSome piece.states (IsStateSwitch piece.blocks)
  -- the conditions are those of the blocks, in order, each once
  pub conds : map (λ case. case.cond) piece.conds ≡ labels piece.blocks
  pub conds_differ : AreDistinct (labels piece.blocks)
  -- the case of a condition goes to the block that is its start
  pub cond_switch : AllByRecursion (λ case. label_of piece.blocks case.block ≡ Some case.cond) piece.conds
  -- a condition that is set or gone to is one of the piece
  pub conds_named : AllByRecursion (NamesOneOf (labels piece.blocks)) (all_statements piece.blocks)
  -- no rule has too many groups
  pub groups : AllByRecursion HasFewGroups (all_statements piece.blocks)
  -- register 1 is spelled as the context marker only where a statement has it
  pub ctx : piece.ctx ≡ true → list_any has_register_one (all_statements piece.blocks) ≡ true
  -- the spellings may be used, and mean different things
  pub names : AreAllowed piece.names
  pub names_differ : DoNotClash piece.names
  -- in custom text no spelling means an input primitive
  pub no_primitive : is_custom piece.head ≡ true → name_primitives piece.names ≡ false
  -- statements of format 3 stand in pieces of that format
  pub of_three : list_any is_of_three (all_statements piece.blocks) ≡ true → is_three piece.head ≡ true
  -- a switch over units stands where a unit is one byte
  pub switches : list_any is_switch (all_statements piece.blocks) ≡ true → piece.unit ≡ 1
  -- the table has a byte for each unit up to 0xFF and each eight sets, and there is none where no set is asked
  pub table : length piece.table ≡ table_size piece.blocks
  -- in a piece of format 3 neither a spelling nor a user's tag means the table
  pub no_table : is_three piece.head ≡ true → name_table piece.names ≡ false
  pub no_table_tag : is_three piece.head ≡ true → list_any names_table (all_statements piece.blocks) ≡ false
  -- in a piece of format 3 no label of a condition begins as those of the piece's blocks do
  pub no_block_label : is_three piece.head ≡ true → list_any (is_like_block piece.number piece.names) (labels piece.blocks) ≡ false
  -- the head, where there is one, tells the unit, the mode and the numbers of the piece
  pub head : IfSome piece.head (Agrees piece)
  -- every line can be spelled
  pub spelled : EachBlockHasSpelling piece.names piece.blocks
