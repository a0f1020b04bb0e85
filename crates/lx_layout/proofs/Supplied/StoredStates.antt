-- Where a scanner comes back that was left, in a piece that stores no state at two places.
use Rattle.std.specs.Prelude.{◌≡◌, ◌≢◌, ◌⊎◌, ℕ, zero, suc, ◌+◌, List, [], ◌∷◌, Option, Some, None, refl, slice_get, if◌then◌else◌}
use Rattle.std.proofs.Common.{inl, inr, sym, ap, ◌∙◌, subst, arith, eq-eqb}
use Rattle.std.proofs.lemmas.Bool.{ne_eqb}
use Rattle.std.specs.List.{AllByRecursion}
use Rattle.lx_ccode.specs.declared.piece.CodeBlock.{CodeBlock}
use Rattle.lx_ccode.specs.declared.piece.StateCase.{StateCase}
use Rattle.lx_ccode.specs.declared.piece.Stmt.{Stmt}
use Rattle.lx_ccode.specs.declared.piece.Stmt.TheVariants.{Goto, Need, State, Try}
use Rattle.lx_ccode.specs.Statements.{code_of, state_of}
use Rattle.lx_ccode.specs.States.{block_of, onto_cases, state_block, states_from, states_in, try_first}
use Rattle.lx_ccode.specs.Validity.{AreOnce}

abbrev pub IsAmong : StateCase → List StateCase → Type 0
IsAmong case [] = ⊥
IsAmong case (first ∷ cases) = (first ≡ case) ⊎ IsAmong case cases

each_among : (Holds : StateCase → Type 0) (case : StateCase) (cases : List StateCase) → AllByRecursion Holds cases → IsAmong case cases → Holds case
each_among Holds case [] all among = absurd among
each_among Holds case (first ∷ cases) all (inl same) = subst (λ c. Holds c) same all.0
each_among Holds case (first ∷ cases) all (inr later) = each_among Holds case cases all.1 later

-- a case of which the state stands in no other one tells where the state's block is
pub block_of-among : (case : StateCase) (cases : List StateCase) → AreOnce cases → IsAmong case cases → block_of cases case.state ≡ Some case.block
block_of-among case [] once among = absurd among
block_of-among case (first ∷ cases) once (inl same) =
    let here : first.state ≡ case.state = ap (λ c. c.state) same in
    ap (λ t. if t then Some first.block else block_of cases case.state) (eq-eqb first.state case.state here) ∙ ap (λ c. Some c.block) same
block_of-among case (first ∷ cases) once (inr later) =
    let apart : case.state ≡ first.state → ⊥ = each_among (λ other. other.state ≡ first.state → ⊥) case cases once.0 later in
    let ne : first.state ≢ case.state = λ e. apart (sym e) in
    ap (λ t. if t then Some first.block else block_of cases case.state) (ne_eqb first.state case.state ne)
    ∙ block_of-among case cases once.1 later

pub among_onto : (case : StateCase) (state : Option ℕ) (block : ℕ) (cases : List StateCase) → IsAmong case cases → IsAmong case (onto_cases state block cases)
among_onto case None block cases among = among
among_onto case (Some state) block cases among = inr among

among_later : (case : StateCase) (place : ℕ) (code : List Stmt) (cases : List StateCase) → IsAmong case cases → IsAmong case (states_in place code cases)
among_later case place [] cases among = among
among_later case place (statement ∷ code) cases among =
    among_onto case (state_of statement) (if try_first code then suc place else place) (states_in place code cases) (among_later case place code cases among)

-- the cases of a block are among those of all blocks
pub among_states : (case : StateCase) (blocks : List CodeBlock) (place j : ℕ) (code : List Stmt) → slice_get (code_of blocks) j ≡ Some code
    → ((cases : List StateCase) → IsAmong case (states_in (place + j) code cases)) → IsAmong case (states_from place blocks)
among_states case [] place j code is here = absurd (cc)
among_states case (block ∷ blocks) place zero code is here =
    let same : code ≡ block.stmts = cc in
    let z : place + 0 ≡ place = omega arith in
    subst (λ n. IsAmong case (states_in n block.stmts (states_from (suc place) blocks))) z
    (subst (λ c. IsAmong case (states_in (place + 0) c (states_from (suc place) blocks))) same (here (states_from (suc place) blocks)))
among_states case (block ∷ blocks) place (suc j) code is here =
    let z : place + suc j ≡ suc place + j = omega arith in
    among_later case place block.stmts (states_from (suc place) blocks)
    (among_states case blocks (suc place) j code is (λ cases. subst (λ n. IsAmong case (states_in n code cases)) z (here cases)))

-- a block that tries a refill comes back at the next one
pub state_block-try : (blocks : List CodeBlock) (j state to end : ℕ) → AreOnce (states_from 0 blocks)
    → slice_get (code_of blocks) j ≡ Some (State state ∷ Try to ∷ Goto end ∷ []) → state_block blocks state ≡ Some (suc j)
state_block-try blocks j state to end once is =
    let z : suc (0 + j) ≡ suc j = omega arith in
    block_of-among (record { state = state; block = suc (0 + j) }) (states_from 0 blocks) once
    (among_states (record { state = state; block = suc (0 + j) }) blocks 0 j (State state ∷ Try to ∷ Goto end ∷ []) is (λ cases. inl refl))
    ∙ ap (λ n. Some n) z

-- a block that begins with a check comes back at itself
pub state_block-need : (blocks : List CodeBlock) (j state units : ℕ) (rest : List Stmt) → AreOnce (states_from 0 blocks)
    → slice_get (code_of blocks) j ≡ Some (State state ∷ Need units ∷ rest) → state_block blocks state ≡ Some j
state_block-need blocks j state units rest once is =
    let z : 0 + j ≡ j = omega arith in
    block_of-among (record { state = state; block = 0 + j }) (states_from 0 blocks) once
    (among_states (record { state = state; block = 0 + j }) blocks 0 j (State state ∷ Need units ∷ rest) is (λ cases. inl refl))
    ∙ ap (λ n. Some n) z
