-- Where a scanner comes back that was left in a state which a layout stores: at the block that stores it, or behind it.
use Rattle.std.specs.Prelude.{◌≡◌, ℕ, zero, suc, ◌+◌, ◌<◌, Bool, true, false, List, [], ◌∷◌, length, Option, Some, None, IsSome, ◌||◌, refl, slice_get, slice_index_or, if◌then◌else◌}
use Rattle.std.proofs.Common.{inl, sym, ap, ◌∙◌, subst, arith, true≢false}
use Rattle.std.specs.List.{list_any}
use Rattle.lx_auto.specs.declared.automaton.Auto.{Auto}
use Rattle.lx_ccode.specs.Statements.{code_of, is_state, state_of}
use Rattle.lx_ccode.specs.States.{state_block, states_from, states_in, try_first}
use Rattle.lx_ccode.specs.Validity.{AreOnce}
use Rattle.lx_ccode.specs.declared.piece.CodeBlock.{CodeBlock}
use Rattle.lx_ccode.specs.declared.piece.StateCase.{StateCase}
use Rattle.lx_ccode.specs.declared.piece.Stmt.{Stmt}
use Rattle.lx_ccode.specs.declared.piece.Stmt.TheVariants.{Goto, Peek, State as Store, Switch}
use Rattle.lx_layout.specs.Codes.{accept_code, restore_code}
use Rattle.lx_layout.specs.Endings.{Ending, ending_code}
use Rattle.lx_layout.specs.Fallback.{edge_code, fallback_code}
use Rattle.lx_layout.specs.Halting.{Halting}
use Rattle.lx_layout.specs.Supplies.{Reader, Supply, back_code, end_test, need_code, try_code}
use Rattle.lx_layout.proofs.BlockLayouts.Questions.{any_question}
use Rattle.lx_layout.proofs.Supplied.StoredStates.{IsAmong, among_onto, among_states, block_of-among}
use Rattle.lx_layout.proofs.SuppliedLayouts.CommonCodes.{none-accept, none-edge, none-ending, none-fallback}
use Rattle.lx_layout.proofs.SuppliedLayouts.EachBlock.{HoldsOfSorts}
use Rattle.lx_layout.proofs.SuppliedLayouts.StoredNothing.{others_store}
use Rattle.lx_layout.specs.TreeCodes.{switch_cases}

pub none_head : (t u : Bool) → (t || u) ≡ false → (t ≡ false) × (u ≡ false)
none_head true u e = absurd (true≢false e)
none_head false u e = (refl, e)

module _ (B : ℕ → Type 0) where
  -- where a state is stored right before a refill is tried, the next block is of the sort
  abbrev pub ComesBack : (at : ℕ) → List Stmt → Type 0
  ComesBack at [] = Unit {0}
  ComesBack at (statement ∷ code) = (is_state statement ≡ true → try_first code ≡ true → B (suc at)) × ComesBack at code

  -- ---- the sorts of code

  comes_any : (at : ℕ) (code : List Stmt) → list_any is_state code ≡ false → ComesBack at code
  comes_any at [] e = tt
  comes_any at (statement ∷ code) e =
      let none = none_head (is_state statement) (list_any is_state code) e in
      (λ is tries. absurd (true≢false (sym is ∙ none.0)), comes_any at code none.1)

  no_state : (at : ℕ) (code : List Stmt) → false ≡ true → try_first code ≡ true → B (suc at)
  no_state at code is tries = absurd (true≢false (sym is))

  comes-need : (stored : Option (Reader → ℕ)) (reader : Reader) (units at : ℕ) (code : List Stmt) → ComesBack at code
      → ComesBack at (need_code stored reader units code)
  comes-need stored reader zero at code h = h
  comes-need None reader (suc units) at code h = (no_state at code, h)
  comes-need (Some number) reader (suc units) at code h = (λ is tries. absurd (true≢false (sym tries)), (no_state at code, h))

  comes-try : (stored : Option (Reader → ℕ)) (reader : Reader) (block end at : ℕ) → (IsSome stored → B (suc at))
      → ComesBack at (try_code stored reader block end)
  comes-try None reader block end at next = (no_state at (Goto end ∷ []), (no_state at [], tt))
  comes-try (Some number) reader block end at next = (λ is tries. next refl, (no_state at (Goto end ∷ []), (no_state at [], tt)))

  pub comes-sorts : (supply : Supply) (halting : Halting) (endings : ℕ → Ending) (auto : Auto)
      → HoldsOfSorts ComesBack B (λ unit. Unit {0}) (λ reader at. Unit {0}) (λ units. Unit {0}) (λ given edge. Unit {0}) (λ accept. Unit {0})
      (λ rule. Unit {0}) supply halting endings auto
  comes-sorts supply halting endings auto = record {
    jumps = λ block to at. comes_any at (Goto block ∷ []) refl;
    tests = λ question block code any to h. any_question (λ statement. (at : ℕ) → ComesBack at (statement ∷ code)) block (λ greatest at. (no_state at code, h at))
        (λ unit at. (no_state at code, h at)) (λ set at. (no_state at code, h at)) question;
    switches = λ cases last any to also at. comes_any at (Switch (switch_cases cases) last ∷ []) refl;
    unchecked = tt;
    checks = λ reader at units block asked own to. comes-need supply.stored reader (suc units) at (Goto block ∷ []) (comes_any at (Goto block ∷ []) refl);
    reads = λ reader at units code asked own h. comes-need supply.stored reader units at (Peek ∷ code) (no_state at code, h at);
    asks = λ asked to there also at. comes_any at (end_test asked to) refl;
    tries = λ reader block end tries some own there also at next. comes-try supply.stored reader block end at next;
    comes_back = λ block end there also at. comes_any at (back_code block end) refl;
    edges = λ given saved block edge any to at.
        comes_any at (edge_code halting auto given saved edge block) (none-edge is_state others_store refl halting auto given saved edge block);
    accepts = λ accept block any to at. comes_any at (accept_code auto accept.ops block) (none-accept is_state others_store auto accept.ops block);
    choices = λ leaves choices to at. comes_any at (fallback_code leaves choices) (none-fallback is_state others_store leaves choices);
    restores = λ block to at. comes_any at (restore_code block) refl;
    ends = λ accept any at.
        comes_any at (ending_code endings accept.rule accept.values) (none-ending is_state others_store endings accept.rule accept.values);
    end_rule = λ rule any at. comes_any at (ending_code endings rule []) (none-ending is_state others_store endings rule []);
  }

  -- ---- the block of a state

  -- the block where it comes back, which is a case of the block that stores it
  abbrev Returns : (at : ℕ) → List Stmt → (number : ℕ) → Type 0
  Returns at code number =
      (block : ℕ) × ((cases : List StateCase) → IsAmong (record { state = number; block = block }) (states_in at code cases)) × B block

  returns_in : (at : ℕ) (code : List Stmt) (number k : ℕ) → B at → ComesBack at code → k < length code
      → slice_index_or code k (Store number) ≡ Store number → Returns at code number
  returns_in at [] number k own h lt is = absurd (omega (arith, lt))
  returns_in at (statement ∷ code) number zero own h lt is = (
    if try_first code then suc at else at,
    λ cases. subst (λ (s : Stmt). IsAmong (record { state = number; block = if try_first code then suc at else at }) (states_in at (s ∷ code) cases)) (sym is)
        (inl refl),
    by (try_first code) refl,
  )
    where
      by : (t : Bool) → try_first code ≡ t → B (if t then suc at else at)
      by true e = h.0 (ap (λ s. is_state s) is) e
      by false e = own
  returns_in at (statement ∷ code) number (suc k) own h lt is =
      let again = returns_in at code number k own h.1 (omega (arith, lt)) is in (
        again.0,
        λ cases. among_onto (record { state = number; block = again.0 }) (state_of statement) (if try_first code then suc at else at) (states_in at code cases)
            (again.1 cases),
        again.2,
      )

  -- where no state is stored at two places
  pub state_returns : (blocks : List CodeBlock) → AreOnce (states_from 0 blocks) → (at : ℕ) (code : List Stmt) → slice_get (code_of blocks) at ≡ Some code
      → (number k : ℕ) → B at → ComesBack at code → k < length code → slice_index_or code k (Store number) ≡ Store number
      → (next : ℕ) → state_block blocks number ≡ Some next → B next
  state_returns blocks once at code here number k own h lt is next leads =
      let found = returns_in at code number k own h lt is in
      let z : 0 + at ≡ at = omega arith in
      let among : IsAmong (record { state = number; block = found.0 }) (states_from 0 blocks) =
      among_states (record { state = number; block = found.0 }) blocks 0 at code here
      (λ cases. subst (λ n. IsAmong (record { state = number; block = found.0 }) (states_in n code cases)) (sym z) (found.1 cases)) in
      let first = block_of-among (record { state = number; block = found.0 }) (states_from 0 blocks) once among in
      let same : found.0 ≡ next = cc in
      subst B same found.2
