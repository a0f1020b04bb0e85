-- How many registers, histories and states a piece has.
use Rattle.std.specs.Prelude.{ℕ, ◌+◌, ◌*◌, ◌/◌, max, Bool, true, false, List, [], ◌∷◌, length}
use Rattle.lx_ccode.specs.declared.piece.Stmt.{Stmt}
use Rattle.lx_ccode.specs.declared.piece.Stmt.TheVariants.{Peek, IfSet, Set, Unset, Copy, MSet, MUnset, MCopy, Tag, End, Back}
use Rattle.lx_ccode.specs.declared.piece.CodeBlock.{CodeBlock}
use Rattle.lx_ccode.specs.States.{states_from}
use Rattle.lx_ccode.specs.Statements.{all_statements}

-- the greatest number of a register that the statement names, or 0
abbrev pub register_in : Stmt → ℕ
register_in (Set register) = register
register_in (Unset register) = register
register_in (Copy register source) = max register source
register_in (Tag tag false register) = register
register_in (End place register) = register
register_in (Back register) = register
register_in _ = 0

-- one more than the greatest number of a history that the statement names, or 0
abbrev pub history_in : Stmt → ℕ
history_in (MSet history) = history + 1
history_in (MUnset history) = history + 1
history_in (MCopy history source) = max history source + 1
history_in (Tag tag true history) = history + 1
history_in _ = 0

-- how many groups of eight sets there are up to the set that the statement asks, or 0
abbrev pub groups_in : Stmt → ℕ
groups_in (IfSet set block) = set / 8 + 1
groups_in _ = 0

-- the greatest of the numbers that a function gives, or 0
abbrev pub greatest_of : (Stmt → ℕ) → List Stmt → ℕ
greatest_of number [] = 0
greatest_of number (statement ∷ statements) = max (number statement) (greatest_of number statements)

-- the greatest number of a register in the blocks, or 0
abbrev pub regs_of : List CodeBlock → ℕ
regs_of blocks = greatest_of register_in (all_statements blocks)

-- one more than the greatest number of a history in the blocks, or 0
abbrev pub mregs_of : List CodeBlock → ℕ
mregs_of blocks = greatest_of history_in (all_statements blocks)

-- how many bytes the table of the blocks' sets has
abbrev pub table_size : List CodeBlock → ℕ
table_size blocks = 256 * greatest_of groups_in (all_statements blocks)

-- how many states the blocks store
abbrev pub state_count : List CodeBlock → ℕ
state_count blocks = length (states_from 0 blocks)

-- the statement reads a unit
abbrev pub is_peek : Stmt → Bool
is_peek Peek = true
is_peek _ = false
