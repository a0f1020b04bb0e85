-- Where a piece goes on that stored a state, by where the state is stored.
use Rattle.std.proofs.Common.{◌≡◌, ◌∙◌, ap, refl, sym, subst, eq-eqb, eqb-true, ◌⊎◌, inl, inr, ℕ, zero, suc, ◌+◌, ◌-◌, ◌≤◌, Bool, true, false, List, [], ◌∷◌, drop, length, length-drop, take, Option, Some, None, arith}
use Rattle.std.specs.Prelude.{◌==◌, if◌then◌else◌, slice_get}
use Rattle.std.specs.List.{AllByRecursion}
use Rattle.std.proofs.lemmas.List.{take_all}
use Rattle.lx_ccode.specs.declared.piece.CodeBlock.{CodeBlock}
use Rattle.lx_ccode.specs.declared.piece.StateCase.{StateCase}
use Rattle.lx_ccode.specs.declared.piece.Stmt.{Stmt}
use Rattle.lx_ccode.specs.declared.piece.Stmt.TheVariants.{State}
use Rattle.lx_ccode.specs.Machine.{code_at}
use Rattle.lx_ccode.specs.States.{block_of, onto_cases, state_block, states_from, states_in, try_first}
use Rattle.lx_ccode.specs.Statements.{code_of, state_of}
use Rattle.lx_ccode.specs.Validity.{AreOnce}

-- the case is one of these
abbrev Stands : StateCase → List StateCase → Type 0
Stands case [] = ⊥
Stands case (first ∷ cases) = (first ≡ case) ⊎ Stands case cases

all-stands : (P : StateCase → Type 0) (case : StateCase) (cases : List StateCase) → AllByRecursion P cases → Stands case cases → P case
all-stands P case [] all stands = absurd stands
all-stands P case (first ∷ cases) all (inl same) = subst P same all.0
all-stands P case (first ∷ cases) all (inr stands) = all-stands P case cases all.1 stands

-- where no state stands twice, each is found at its own case
block_of-stands : (case : StateCase) (cases : List StateCase) → AreOnce cases → Stands case cases → block_of cases case.state ≡ Some case.block
block_of-stands case [] once stands = absurd stands
block_of-stands case (first ∷ cases) once (inl same) =
    subst (λ (one : StateCase). block_of (first ∷ cases) one.state ≡ Some one.block) same (rw (eq-eqb first.state first.state refl) refl)
block_of-stands case (first ∷ cases) once (inr stands) = by (first.state == case.state) refl (block_of-stands case cases once.1 stands) where
  by : (equal : Bool) → (first.state == case.state) ≡ equal → block_of cases case.state ≡ Some case.block → block_of (first ∷ cases) case.state ≡ Some case.block
  by true is later = absurd (all-stands (λ other. other.state ≡ first.state → ⊥) case cases once.0 stands (sym (eqb-true first.state case.state is)))
  by false is later = rw is later

stands-onto : (case : StateCase) (state : Option ℕ) (block : ℕ) (cases : List StateCase) → Stands case cases → Stands case (onto_cases state block cases)
stands-onto case None block cases stands = stands
stands-onto case (Some state) block cases stands = inr stands

stands-behind : (case : StateCase) (place : ℕ) (code : List Stmt) (others : List StateCase) → Stands case others → Stands case (states_in place code others)
stands-behind case place [] others stands = stands
stands-behind case place (first ∷ code) others stands = stands-onto case (state_of first) _ _ (stands-behind case place code others stands)

-- the block where a piece goes on that stored a state at a place of a block
abbrev pub goes_on_at : (place : ℕ) → (rest : List Stmt) → ℕ
goes_on_at place rest = if try_first rest then suc place else place

stands-in : (place : ℕ) (code : List Stmt) (others : List StateCase) (at state : ℕ) → slice_get code at ≡ Some (State state)
    → Stands (record { state = state; block = goes_on_at place (drop (suc at) code) }) (states_in place code others)
stands-in place [] others at state is = absurd cc
stands-in place (first ∷ code) others zero state is =
    let same : State state ≡ first = cc in
    subst (λ (one : Stmt). Stands (record { state = state; block = goes_on_at place code }) (states_in place (one ∷ code) others)) same (inl refl)
stands-in place (first ∷ code) others (suc at) state is = stands-onto _ (state_of first) _ _ (stands-in place code others at state is)

stands-from : (first : ℕ) (blocks : List CodeBlock) (place : ℕ) (code : List Stmt) (at state : ℕ) → slice_get (code_of blocks) place ≡ Some code → slice_get code at ≡ Some (State state)
    → Stands (record { state = state; block = goes_on_at (first + place) (drop (suc at) code) }) (states_from first blocks)
stands-from first [] place code at state here is = absurd cc
stands-from first (block ∷ blocks) zero code at state here is =
    let same : block.stmts ≡ code = cc in
    subst (λ (stmts : List Stmt). Stands (record { state = state; block = goes_on_at (first + zero) (drop (suc at) code) }) (states_in first stmts (states_from (suc first) blocks))) (sym same)
    (subst (λ (count : ℕ). Stands (record { state = state; block = goes_on_at count (drop (suc at) code) }) (states_in first code (states_from (suc first) blocks))) (omega arith)
    (stands-in first code (states_from (suc first) blocks) at state is))
stands-from first (block ∷ blocks) (suc place) code at state here is =
    stands-behind _ first block.stmts (states_from (suc first) blocks)
    (subst (λ (count : ℕ). Stands (record { state = state; block = goes_on_at count (drop (suc at) code) }) (states_from (suc first) blocks)) (omega arith)
    (stands-from (suc first) blocks place code at state here is))

-- where a piece goes on that stored a state there
pub state_block-at : (blocks : List CodeBlock) (block : ℕ) (code : List Stmt) (at state : ℕ) → AreOnce (states_from 0 blocks) → code_at blocks (Some block) ≡ Some code
    → slice_get code at ≡ Some (State state) → state_block blocks state ≡ Some (goes_on_at block (drop (suc at) code))
state_block-at blocks block code at state once here is =
    block_of-stands _ (states_from 0 blocks) once
    (subst (λ (count : ℕ). Stands (record { state = state; block = goes_on_at count (drop (suc at) code) }) (states_from 0 blocks)) (omega arith) (stands-from 0 blocks block code at state here is))

-- and so by whether a Try stands behind
pub state_block-behind : (blocks : List CodeBlock) (block : ℕ) (code : List Stmt) (before at state : ℕ) (goes_on : Bool) → AreOnce (states_from 0 blocks) → code_at blocks (Some block) ≡ Some code
    → slice_get code before ≡ Some (State state) → (1 ≤ at) × (before ≡ at - 1) → goes_on ≡ try_first (take (length code - at) (drop at code))
    → state_block blocks state ≡ Some (if goes_on then suc block else block)
state_block-behind blocks block code before at state goes_on once here is next tries =
    let some = next.0 in
    let last = next.1 in
    let place : suc before ≡ at = omega (arith, some, last) in
    let rest : take (length code - at) (drop at code) ≡ drop at code = take_all (length code - at) (drop at code) (omega (arith, length-drop at code)) in
    state_block-at blocks block code before state once here is
    ∙ ap (λ (some : Bool). Some (if some then suc block else block)) (ap (λ (one : ℕ). try_first (drop one code)) place ∙ ap try_first (sym rest) ∙ sym tries)
