-- The statements of a piece, and the sorts of statements.
use Rattle.std.specs.Prelude.{ℕ, ◌+◌, Bool, true, false, List, [], ◌∷◌, ◌++◌, length, map, Option, Some, None, is_some, ◌||◌, ◌==◌}
use Rattle.lx_base.specs.Names.{begins_table}
use Rattle.lx_ccode.specs.declared.piece.Stmt.{Stmt}
use Rattle.lx_ccode.specs.declared.piece.Stmt.TheVariants.{Peek, Skip, Accept, Set, Unset, Copy, IfUnit, IfIs, IfSet, IfAccept, IfEnd, State, Need, Try, Tag, End, Back, Switch, Goto, Leave, Code, Jump}
use Rattle.lx_ccode.specs.declared.piece.CodeBlock.{CodeBlock}

-- the blocks as lists of statements
abbrev pub code_of : List CodeBlock → List (List Stmt)
code_of blocks = map (λ block. block.stmts) blocks

-- the statements of all blocks, in order
abbrev pub all_statements : List CodeBlock → List Stmt
all_statements [] = []
all_statements (block ∷ blocks) = block.stmts ++ all_statements blocks

-- how many statements the blocks have
abbrev pub code_length : List (List Stmt) → ℕ
code_length [] = 0
code_length (statements ∷ blocks) = length statements + code_length blocks

-- how many statements the blocks of a piece have
abbrev pub statement_count : List CodeBlock → ℕ
statement_count blocks = code_length (code_of blocks)

-- the blocks to which the statement may jump
abbrev pub targets : Stmt → List ℕ
targets (IfUnit greatest block) = block ∷ []
targets (IfIs unit block) = block ∷ []
targets (IfSet set block) = block ∷ []
targets (IfAccept accept block) = block ∷ []
targets (IfEnd block) = block ∷ []
targets (Try block) = block ∷ []
targets (Switch cases last) = map (λ case. case.block) cases ++ last ∷ []
targets (Goto block) = block ∷ []
targets _ = []

-- Switch, Goto, Leave, Code or Jump
abbrev pub is_ending : Stmt → Bool
is_ending (Switch cases last) = true
is_ending (Goto block) = true
is_ending Leave = true
is_ending (Code rule line action) = true
is_ending (Jump cond rule) = true
is_ending _ = false

-- the state that the statement stores
abbrev pub state_of : Stmt → Option ℕ
state_of (State state) = Some state
state_of _ = None

abbrev pub is_state : Stmt → Bool
is_state statement = is_some (state_of statement)

abbrev pub is_need : Stmt → Bool
is_need (Need units) = true
is_need _ = false

abbrev pub is_try : Stmt → Bool
is_try (Try block) = true
is_try _ = false

-- the statement asks for a refill
abbrev pub is_refill : Stmt → Bool
is_refill statement = is_need statement || is_try statement

-- the statement reads a unit, passes one, or asks whether one is left
abbrev pub is_reading : Stmt → Bool
is_reading Peek = true
is_reading Skip = true
is_reading (IfEnd block) = true
is_reading _ = false

-- the statement is of format 3
abbrev pub is_of_three : Stmt → Bool
is_of_three (IfIs unit block) = true
is_of_three (IfSet set block) = true
is_of_three (Switch cases last) = true
is_of_three _ = false

abbrev pub is_switch : Stmt → Bool
is_switch (Switch cases last) = true
is_switch _ = false

-- the statement gives a value to a user's tag that is called as the table of sets is
abbrev pub names_table : Stmt → Bool
names_table (Tag tag is_history number) = begins_table tag
names_table _ = false

-- the statement names register 1
abbrev pub has_register_one : Stmt → Bool
has_register_one (Set register) = register == 1
has_register_one (Unset register) = register == 1
has_register_one (Copy register source) = (register == 1) || (source == 1)
has_register_one (Tag tag false register) = register == 1
has_register_one (End group_end register) = register == 1
has_register_one (Back register) = register == 1
has_register_one _ = false

-- the statement reads the current unit, or asks it
abbrev pub has_unit : Stmt → Bool
has_unit Peek = true
has_unit (IfUnit greatest block) = true
has_unit (IfIs unit block) = true
has_unit (IfSet set block) = true
has_unit (Switch cases last) = true
has_unit _ = false

-- the statement keeps the number of an accepting state, or asks it
abbrev pub has_accept : Stmt → Bool
has_accept (Accept accept) = true
has_accept (IfAccept accept block) = true
has_accept _ = false

abbrev pub is_leave : Stmt → Bool
is_leave Leave = true
is_leave _ = false

abbrev pub is_code : Stmt → Bool
is_code (Code rule line action) = true
is_code _ = false

-- the last statement is a user's action
abbrev pub ends_in_code : List Stmt → Bool
ends_in_code [] = false
ends_in_code (statement ∷ []) = is_code statement
ends_in_code (statement ∷ next ∷ statements) = ends_in_code (next ∷ statements)
