-- What a match kept is forgotten before a jump to a condition, where some statement of the piece tests it: the match that begins there has
-- kept nothing yet.
use Rattle.std.specs.Prelude.{◌≡◌, ℕ, zero, Bool, true, false, List, [], ◌∷◌, map, if◌then◌else◌}
use Rattle.std.specs.List.{AllByRecursion, list_any}
use Rattle.lx_ccode.specs.Statements.{all_statements}
use Rattle.lx_ccode.specs.declared.piece.CodeBlock.{CodeBlock}
use Rattle.lx_ccode.specs.declared.piece.Stmt.{Stmt}
use Rattle.lx_ccode.specs.declared.piece.Stmt.TheVariants.{Accept, IfAccept, Jump}
use Rattle.lx_layout.specs.Endings.{Ending}

-- the statement tests what was kept
abbrev pub tests_kept : Stmt → Bool
tests_kept (IfAccept accept block) = true
tests_kept _ = false

-- some statement of blocks does
abbrev pub any_tests_kept : List CodeBlock → Bool
any_tests_kept blocks = list_any tests_kept (all_statements blocks)

-- the statement goes on in a condition
abbrev pub is_jump : Stmt → Bool
is_jump (Jump cond rule) = true
is_jump _ = false

-- nothing is kept behind the statement
abbrev pub is_forget : Stmt → Bool
is_forget (Accept zero) = true
is_forget _ = false

-- directly before each jump what was kept is forgotten; the truth value says whether it is before the first statement
abbrev pub forgets_before_jumps : (forgotten : Bool) → List Stmt → Bool
forgets_before_jumps forgotten [] = true
forgets_before_jumps forgotten (statement ∷ statements) =
    if (if is_jump statement then forgotten else true) then forgets_before_jumps (is_forget statement) statements else false

-- so it is in all blocks, if one of their statements tests what was kept
abbrev pub JumpsForget : List CodeBlock → Type 0
JumpsForget blocks =
    any_tests_kept blocks ≡ true → AllByRecursion (λ (block : CodeBlock). forgets_before_jumps false block.stmts ≡ true) blocks

-- the ends of rules, where it is told whether what was kept is forgotten
abbrev pub forgetting_by : (forgets : Bool) → (endings : ℕ → Ending) → (rule : ℕ) → Ending
forgetting_by forgets endings rule = record (endings rule) { forgets = forgets }

-- and so as they stand in blocks
abbrev pub endings_in : List CodeBlock → (endings : ℕ → Ending) → (rule : ℕ) → Ending
endings_in blocks endings = forgetting_by (any_tests_kept blocks) endings

-- ---- as the code has it

-- the last statement goes on in a condition
abbrev pub ends_by_jump : List Stmt → Bool
ends_by_jump [] = false
ends_by_jump (statement ∷ []) = is_jump statement
ends_by_jump (statement ∷ next ∷ statements) = ends_by_jump (next ∷ statements)

-- where it does, what was kept is forgotten before it
abbrev pub forgetting : List Stmt → List Stmt
forgetting [] = []
forgetting (statement ∷ []) = if is_jump statement then Accept 0 ∷ statement ∷ [] else statement ∷ []
forgetting (statement ∷ next ∷ statements) = statement ∷ forgetting (next ∷ statements)

abbrev pub forgetting_block : CodeBlock → CodeBlock
forgetting_block block = record block { stmts = forgetting block.stmts }

-- so it is in all blocks, if it is asked for
abbrev pub forgetting_blocks : (forgets : Bool) → List CodeBlock → List CodeBlock
forgetting_blocks false blocks = blocks
forgetting_blocks true blocks = map forgetting_block blocks
