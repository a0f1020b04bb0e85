-- A piece that stored a state comes back to one of its blocks.
use Rattle.std.proofs.Common.{◌≡◌, ℕ, suc, ◌+◌, ◌<◌, Bool, true, false, List, [], ◌∷◌, length, Option, Some, None, refl, sym, ap, subst, ◌∙◌, arith}
use Rattle.std.specs.Prelude.{if◌then◌else◌, ◌==◌, ◌||◌, is_some}
use Rattle.std.specs.List.{AllByRecursion, list_any}
use Rattle.std.proofs.lemmas.Bool.{false≢true}
use Rattle.lx_ccode.specs.declared.piece.Stmt.{Stmt}
use Rattle.lx_ccode.specs.declared.piece.StateCase.{StateCase}
use Rattle.lx_ccode.specs.declared.piece.CodeBlock.{CodeBlock}
use Rattle.lx_ccode.specs.declared.piece.Piece.{Piece}
use Rattle.lx_ccode.specs.Statements.{all_statements, is_state, is_try, state_of}
use Rattle.lx_ccode.specs.States.{try_first, onto_cases, states_in, states_from, block_of, state_block, has_state, stores}
use Rattle.lx_ccode.specs.Machine.{code_at, stored_block}
use Rattle.lx_ccode.specs.Validity.{IsValid, last_statements, tries_after_state}
use Rattle.lx_ccode.proofs.RoundTrip.{list_any-append}
use Rattle.lx_ccode.proofs.StuckSteps.{code_at-below}

-- ---- the blocks of states are blocks of the piece

-- each case goes to a block below the bound
abbrev AreBelow : ℕ → List StateCase → Type 0
AreBelow bound cases = AllByRecursion (λ case. case.block < bound) cases

AreBelow-onto : (bound : ℕ) (state : Option ℕ) (block : ℕ) (cases : List StateCase) → (is_some state ≡ true → block < bound) → AreBelow bound cases
    → AreBelow bound (onto_cases state block cases)
AreBelow-onto bound None block cases below others = others
AreBelow-onto bound (Some state) block cases below others = (below refl, others)

-- where the next block is one of the piece
AreBelow-inner : (bound place : ℕ) (statements : List Stmt) (others : List StateCase) → suc place < bound → AreBelow bound others → AreBelow bound (states_in place statements others)
AreBelow-inner bound place [] others below rest = rest
AreBelow-inner bound place (statement ∷ statements) others below rest =
    AreBelow-onto bound (state_of statement) _ _ (λ is. by_test (try_first statements)) (AreBelow-inner bound place statements others below rest) where
      by_test : (test : Bool) → (if test then suc place else place) < bound
      by_test true = below
      by_test false = omega arith

or-false_left : (a b : Bool) → (a || b) ≡ false → a ≡ false
or-false_left true b h = absurd (false≢true (sym h))
or-false_left false b h = refl

or-false_right : (a b : Bool) → (a || b) ≡ false → b ≡ false
or-false_right true b h = absurd (false≢true (sym h))
or-false_right false b h = h

-- where no Try follows a State, the first statement behind a State is none
no_try_first : (statements : List Stmt) → tries_after_state true statements ≡ false → try_first statements ≡ false
no_try_first [] none = refl
no_try_first (statement ∷ statements) none = or-false_left (is_try statement) (tries_after_state (is_state statement) statements) none

-- the last block
AreBelow-last : (bound place : ℕ) (after : Bool) (statements : List Stmt) (others : List StateCase) → place < bound → tries_after_state after statements ≡ false
    → AreBelow bound others → AreBelow bound (states_in place statements others)
AreBelow-last bound place after [] others below none rest = rest
AreBelow-last bound place after (statement ∷ statements) others below none rest =
    let later : tries_after_state (is_state statement) statements ≡ false = or-false_right (if after then is_try statement else false) (tries_after_state (is_state statement) statements) none in
    AreBelow-onto bound (state_of statement) _ _
    (λ is. (let first : try_first statements ≡ false = no_try_first statements (ap (λ before. tries_after_state before statements) (sym is) ∙ later) in subst (λ test. (if test then suc place else place) < bound) (sym first) below))
    (AreBelow-last bound place (is_state statement) statements others below later rest)

AreBelow-blocks : (place : ℕ) (blocks : List CodeBlock) → tries_after_state false (last_statements blocks) ≡ false → AreBelow (place + length blocks) (states_from place blocks)
AreBelow-blocks place [] none = tt
AreBelow-blocks place (block ∷ []) none = AreBelow-last (place + 1) place false block.stmts [] (omega arith) none tt
AreBelow-blocks place (block ∷ next ∷ blocks) none =
    let same : suc place + length (next ∷ blocks) ≡ place + length (block ∷ next ∷ blocks) = omega arith in
    let rest : AreBelow (place + length (block ∷ next ∷ blocks)) (states_from (suc place) (next ∷ blocks)) = subst (λ bound. AreBelow bound (states_from (suc place) (next ∷ blocks))) same (AreBelow-blocks (suc place) (next ∷ blocks) none) in
    AreBelow-inner (place + length (block ∷ next ∷ blocks)) place block.stmts _ (omega arith) rest

block_of-below : (bound state block : ℕ) (cases : List StateCase) → AreBelow bound cases → block_of cases state ≡ Some block → block < bound
block_of-below bound state block [] below e = cc
block_of-below bound state block (case ∷ cases) below e = by_test (case.state == state) e (λ h. block_of-below bound state block cases below.1 h) where
  by_test : (test : Bool) → (if test then Some case.block else block_of cases state) ≡ Some block → (block_of cases state ≡ Some block → block < bound) → block < bound
  by_test true e again = (let same : case.block ≡ block = cc in subst (λ place. place < bound) same below.0)
  by_test false e again = again e

-- ---- a state that is stored has a block

block_of-onto : (state : ℕ) (other : Option ℕ) (block : ℕ) (cases : List StateCase) → (block_of cases state ≡ None → ⊥) → block_of (onto_cases other block cases) state ≡ None → ⊥
block_of-onto state None block cases some none = some none
block_of-onto state (Some other) block cases some none = by_test (other == state) none where
  by_test : (test : Bool) → (if test then Some block else block_of cases state) ≡ None → ⊥
  by_test true none = cc
  by_test false none = some none

block_of-others : (state place : ℕ) (statements : List Stmt) (others : List StateCase) → (block_of others state ≡ None → ⊥) → block_of (states_in place statements others) state ≡ None → ⊥
block_of-others state place [] others some = some
block_of-others state place (statement ∷ statements) others some = block_of-onto state (state_of statement) _ _ (block_of-others state place statements others some)

block_of-here : (state : ℕ) (other : Option ℕ) (block : ℕ) (cases : List StateCase) → has_state other state ≡ true → block_of (onto_cases other block cases) state ≡ None → ⊥
block_of-here state None block cases has none = false≢true has
block_of-here state (Some other) block cases has none = (let some : Some block ≡ None = ap (λ test. if test then Some block else block_of cases state) (sym has) ∙ none in cc)

block_of-stored : (state place : ℕ) (statements : List Stmt) (others : List StateCase) → list_any (stores state) statements ≡ true → block_of (states_in place statements others) state ≡ None → ⊥
block_of-stored state place [] others has none = false≢true has
block_of-stored state place (statement ∷ statements) others has none =
    by_test (stores state statement) refl has (λ h. block_of-stored state place statements others h) where
      by_test : (test : Bool) → stores state statement ≡ test → (test || list_any (stores state) statements) ≡ true
          → (list_any (stores state) statements ≡ true → block_of (states_in place statements others) state ≡ None → ⊥) → ⊥
      by_test true e has again = block_of-here state (state_of statement) _ _ e none
      by_test false e has again = block_of-onto state (state_of statement) _ _ (again has) none

state_block-stored : (state place : ℕ) (blocks : List CodeBlock) → list_any (stores state) (all_statements blocks) ≡ true → block_of (states_from place blocks) state ≡ None → ⊥
state_block-stored state place [] has none = false≢true has
state_block-stored state place (block ∷ blocks) has none =
    by_test (list_any (stores state) block.stmts) refl (sym (list_any-append (stores state) block.stmts (all_statements blocks)) ∙ has) (λ h. state_block-stored state (suc place) blocks h) where
      by_test : (test : Bool) → list_any (stores state) block.stmts ≡ test → (test || list_any (stores state) (all_statements blocks)) ≡ true
          → (list_any (stores state) (all_statements blocks) ≡ true → block_of (states_from (suc place) blocks) state ≡ None → ⊥) → ⊥
      by_test true e has again = block_of-stored state place block.stmts _ e none
      by_test false e has again = block_of-others state place block.stmts _ (again has) none

-- a valid piece that stores the state has code to come back to
pub code_at-stored : (piece : Piece) (state : ℕ) → IsValid piece → list_any (stores state) (all_statements piece.blocks) ≡ true
    → code_at piece.blocks (stored_block piece.blocks (Some state)) ≡ None → ⊥
code_at-stored piece state valid has none = by_block (state_block piece.blocks state) refl none where
  by_block : (block : Option ℕ) → state_block piece.blocks state ≡ block → code_at piece.blocks block ≡ None → ⊥
  by_block None e none = state_block-stored state 0 piece.blocks has e
  by_block (Some block) e none =
      (let below : block < 0 + length piece.blocks = block_of-below (0 + length piece.blocks) state block (states_from 0 piece.blocks) (AreBelow-blocks 0 piece.blocks valid.next_block) e in
      code_at-below piece.blocks block (omega (arith, below)) none)
