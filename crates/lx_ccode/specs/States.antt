-- The states that a piece stores, and the blocks where it goes on after it was left.
use Rattle.std.specs.Prelude.{ℕ, suc, Bool, false, List, [], ◌∷◌, Option, Some, None, ◌==◌, if◌then◌else◌}
use Rattle.lx_ccode.specs.declared.piece.Stmt.{Stmt}
use Rattle.lx_ccode.specs.declared.piece.StateCase.{StateCase}
use Rattle.lx_ccode.specs.declared.piece.CodeBlock.{CodeBlock}
use Rattle.lx_ccode.specs.Statements.{is_try, state_of}

-- the first statement is a Try
abbrev pub try_first : List Stmt → Bool
try_first [] = false
try_first (statement ∷ statements) = is_try statement

-- the cases with one more, where there is a state
abbrev pub onto_cases : (state : Option ℕ) → (block : ℕ) → List StateCase → List StateCase
onto_cases None block cases = cases
onto_cases (Some state) block cases = record { state = state; block = block } ∷ cases

-- the states of a block's statements, each with the block where it goes on: this one, or the next one before a Try
abbrev pub states_in : (place : ℕ) → List Stmt → List StateCase → List StateCase
states_in place [] others = others
states_in place (statement ∷ statements) others =
    onto_cases (state_of statement) (if try_first statements then suc place else place) (states_in place statements others)

-- the states of blocks, of which the first has this place
abbrev pub states_from : (place : ℕ) → List CodeBlock → List StateCase
states_from place [] = []
states_from place (block ∷ blocks) = states_in place block.stmts (states_from (suc place) blocks)

-- the block of a state, by the first case that has it
abbrev pub block_of : List StateCase → ℕ → Option ℕ
block_of [] state = None
block_of (case ∷ cases) state = if case.state == state then Some case.block else block_of cases state

-- the block where a piece that stored this state goes on
abbrev pub state_block : List CodeBlock → ℕ → Option ℕ
state_block blocks state = block_of (states_from 0 blocks) state

abbrev pub has_state : Option ℕ → ℕ → Bool
has_state None state = false
has_state (Some other) state = other == state

-- the statement stores this state
abbrev pub stores : (state : ℕ) → Stmt → Bool
stores state statement = has_state (state_of statement) state
