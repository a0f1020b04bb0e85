-- A layout stores a state right before a refill is tried, or in the block of what reads.
use Rattle.std.specs.Prelude.{◌≡◌, ◌⊎◌, ℕ, zero, suc, ◌<◌, Bool, true, false, List, [], ◌∷◌, length, Option, Some, None, IsSome, is_some, refl, slice_index_or, if◌then◌else◌}
use Rattle.std.proofs.Common.{inl, inr, sym, ap, ◌∙◌, subst, arith, true≢false}
use Rattle.std.specs.List.{list_any}
use Rattle.lx_auto.specs.declared.automaton.Auto.{Auto}
use Rattle.lx_ccode.specs.Statements.{is_state, state_of}
use Rattle.lx_ccode.specs.States.{states_in, try_first}
use Rattle.lx_ccode.specs.declared.piece.StateCase.{StateCase}
use Rattle.lx_ccode.specs.declared.piece.Stmt.{Stmt}
use Rattle.lx_ccode.specs.declared.piece.Stmt.TheVariants.{Goto, Peek, State as Store, Switch}
use Rattle.lx_layout.specs.Codes.{accept_code, restore_code}
use Rattle.lx_layout.specs.Endings.{Ending, ending_code}
use Rattle.lx_layout.specs.Fallback.{edge_code, fallback_code}
use Rattle.lx_layout.specs.Halting.{Halting}
use Rattle.lx_layout.specs.Supplies.{Reader, Supply, back_code, end_test, need_code, try_code}
use Rattle.lx_layout.proofs.BlockLayouts.Questions.{any_question}
use Rattle.lx_layout.proofs.Supplied.StoredStates.{IsAmong, among_onto}
use Rattle.lx_layout.proofs.SuppliedLayouts.CommonCodes.{none-accept, none-edge, none-ending, none-fallback}
use Rattle.lx_layout.proofs.SuppliedLayouts.EachBlock.{HoldsOfSorts}
use Rattle.lx_layout.proofs.SuppliedLayouts.ReturnBlocks.{none_head}
use Rattle.lx_layout.proofs.SuppliedLayouts.StoredNothing.{others_store}
use Rattle.lx_layout.specs.TreeCodes.{switch_cases}

module _ (supply : Supply) (R : Reader → ℕ → Type 0) where
  -- a reader's own block
  abbrev pub HomeAt : ℕ → Type 0
  HomeAt at = (reader : Reader) × R reader at

  -- the state is the number of a reader, which tries a refill
  pub record Asked (number : ℕ) : Type 0 where
    pub reader : Reader
    pub home : ℕ
    pub is : R reader home
    pub numbers : Reader → ℕ
    pub stored : supply.stored ≡ Some numbers
    pub same : number ≡ numbers reader
    pub tries : supply.tries ≡ true
    pub some : IsSome supply.eof

  abbrev pub Place : (at number : ℕ) → (tries : Bool) → Type 0
  Place at number true = Asked number
  Place at number false = HomeAt at

  abbrev pub StoresAt : ℕ → List Stmt → Type 0
  StoresAt at [] = Unit {0}
  StoresAt at (statement ∷ code) = ((number : ℕ) → state_of statement ≡ Some number → Place at number (try_first code)) × StoresAt at code

  stores_none : (at : ℕ) (code : List Stmt) → list_any is_state code ≡ false → StoresAt at code
  stores_none at [] none = tt
  stores_none at (statement ∷ code) none =
      let parts = none_head (is_state statement) (list_any is_state code) none in
      ((λ number is. absurd (true≢false (sym (ap (λ o. is_some o) is) ∙ parts.0))), stores_none at code parts.1)

  stores_check : (stored : Option (Reader → ℕ)) (reader : Reader) (units at : ℕ) (rest : List Stmt) → R reader at → StoresAt at rest
      → StoresAt at (need_code stored reader units rest)
  stores_check stored reader zero at rest own h = h
  stores_check None reader (suc units) at rest own h = ((λ number is. absurd (cc)), h)
  stores_check (Some numbers) reader (suc units) at rest own h = ((λ number is. (reader, own)), ((λ number is. absurd (cc)), h))

  stores_try : (stored : Option (Reader → ℕ)) → supply.stored ≡ stored → (reader : Reader) (block end at : ℕ) → supply.tries ≡ true → IsSome supply.eof
      → R reader block → StoresAt at (try_code stored reader block end)
  stores_try None same reader block end at tries some own = ((λ number is. absurd (cc)), ((λ number is. absurd (cc)), tt))
  stores_try (Some numbers) same reader block end at tries some own = (
    (λ number is. record {
      reader = reader;
      home = block;
      is = own;
      numbers = numbers;
      stored = same;
      same = cc;
      tries = tries;
      some = some;
    }),
    ((λ number is. absurd (cc)), ((λ number is. absurd (cc)), tt)),
  )

  pub stored_sorts : (halting : Halting) (endings : ℕ → Ending) (auto : Auto)
      → HoldsOfSorts StoresAt (λ block. Unit {0}) (λ unit. Unit {0}) R (λ units. Unit {0}) (λ given edge. Unit {0}) (λ accept. Unit {0})
      (λ rule. Unit {0}) supply halting endings auto
  stored_sorts halting endings auto = record {
    jumps = λ block any at. stores_none at (Goto block ∷ []) refl;
    tests = λ question block code any to h. any_question (λ statement. (at : ℕ) → StoresAt at (statement ∷ code)) block (λ greatest at. ((λ number is. absurd (cc)), h at))
        (λ unit at. ((λ number is. absurd (cc)), h at)) (λ set at. ((λ number is. absurd (cc)), h at)) question;
    switches = λ cases last any to also at. stores_none at (Switch (switch_cases cases) last ∷ []) refl;
    unchecked = tt;
    checks = λ reader at units block asked own any. stores_check supply.stored reader (suc units) at (Goto block ∷ []) own (stores_none at (Goto block ∷ []) refl);
    reads = λ reader at units code asked own h.
        stores_check supply.stored reader units at (Peek ∷ code) own ((λ number is. absurd (cc)), h at);
    asks = λ asked to any also at. stores_none at (end_test asked to) refl;
    tries = λ reader block end tries some own any also at next. stores_try supply.stored refl reader block end at tries some own;
    comes_back = λ block end any also at. stores_none at (back_code block end) refl;
    edges = λ given saved block edge any also at.
        stores_none at (edge_code halting auto given saved edge block) (none-edge is_state others_store refl halting auto given saved edge block);
    accepts = λ accept block any also at. stores_none at (accept_code auto accept.ops block) (none-accept is_state others_store auto accept.ops block);
    choices = λ leaves choices any at. stores_none at (fallback_code leaves choices) (none-fallback is_state others_store leaves choices);
    restores = λ block any at. stores_none at (restore_code block) refl;
    ends = λ accept any at.
        stores_none at (ending_code endings accept.rule accept.values) (none-ending is_state others_store endings accept.rule accept.values);
    end_rule = λ rule any at. stores_none at (ending_code endings rule []) (none-ending is_state others_store endings rule []);
  }

  -- a state that stands there is one that is asked, or this block is its case
  abbrev pub IsCase : (at : ℕ) → List Stmt → (number : ℕ) → Type 0
  IsCase at code number =
      Asked number ⊎ (HomeAt at × ((cases : List StateCase) → IsAmong (record { state = number; block = at }) (states_in at code cases)))

  pub found_state : (at : ℕ) (code : List Stmt) (number k : ℕ) → StoresAt at code → k < length code
      → slice_index_or code k (Store number) ≡ Store number → IsCase at code number
  found_state at [] number k h lt is = absurd (omega (arith, lt))
  found_state at (statement ∷ code) number zero h lt is = by (try_first code) refl (h.0 number (ap (λ s. state_of s) is))
    where
      by : (t : Bool) → try_first code ≡ t → Place at number t → IsCase at (statement ∷ code) number
      by true e asked = inl asked
      by false e home =
          inr (
            home,
            λ cases.
                subst (λ (s : Stmt). IsAmong (record { state = number; block = at }) (states_in at (s ∷ code) cases)) (sym is)
                (inl (ap (λ t. record { state = number; block = if t then suc at else at }) e)),
          )
  found_state at (statement ∷ code) number (suc k) h lt is = by (found_state at code number k h.1 (omega (arith, lt)) is)
    where
      by : IsCase at code number → IsCase at (statement ∷ code) number
      by (inl asked) = inl asked
      by (inr there) =
          inr (
            there.0,
            λ cases.
                among_onto (record { state = number; block = at }) (state_of statement) (if try_first code then suc at else at) (states_in at code cases)
                (there.1 cases),
          )
