-- Of the code of each sort that no unit is tested in it before one is read, where it leads to blocks of which that holds.
use Rattle.std.specs.Prelude.{◌≡◌, ◌≢◌, ℕ, zero, suc, Bool, true, false, List, [], ◌∷◌, Option, Some, None, refl, slice_get}
use Rattle.std.proofs.Common.{sym, subst, arith, true≢false}
use Rattle.std.specs.List.{AllByRecursion}
use Rattle.lx_auto.specs.declared.automaton.Accept.{Accept}
use Rattle.lx_auto.specs.declared.automaton.Auto.{Auto}
use Rattle.lx_auto.specs.declared.automaton.Edge.{Edge}
use Rattle.lx_auto.specs.declared.automaton.Held.{Held}
use Rattle.lx_auto.specs.declared.automaton.State.{State}
use Rattle.lx_auto.specs.declared.ops.Op.{Op}
use Rattle.lx_auto.specs.declared.ops.Op.TheVariants.{Here, Null, Copy, MHere, MNull, MCopy}
use Rattle.lx_ccode.specs.Statements.{code_of}
use Rattle.lx_ccode.specs.declared.piece.Piece.{Piece}
use Rattle.lx_ccode.specs.declared.piece.Stmt.{Stmt}
use Rattle.lx_ccode.specs.declared.piece.Stmt.TheVariants.{Accept as SaveAccept, Backup, Goto, IfAccept, IfEnd, IfIs, IfSet, IfUnit, Leave, Need, Peek, Restore, Skip, State as Store, Switch, Try}
use Rattle.lx_sequence.specs.ParallelCopies.{sequentialized}
use Rattle.lx_layout.specs.Codes.{Choice, accept_code, list_code, op_code, ops_code, restore_code, save_code}
use Rattle.lx_layout.specs.Endings.{Ending, ending_code}
use Rattle.lx_layout.specs.Fallback.{edge_code, fallback_code}
use Rattle.lx_layout.specs.Halting.{Halting, saves_on}
use Rattle.lx_layout.specs.Layout.{StandsFrom, choices_from, restore_blocks}
use Rattle.lx_layout.specs.SuppliedLayout.{JumpsTo}
use Rattle.lx_layout.specs.Supplies.{Reader, back_code, end_test, need_code, store_code, try_code}
use Rattle.lx_layout.proofs.ScannerLaws.FewSteps.{Backs, Calm, CalmAt, checks, fewer, goto, if_accept, if_end, is_simple, simple, stores, tries}
use Rattle.lx_layout.proofs.ScannerLaws.TestSorts.{all_tests}
use Rattle.lx_layout.proofs.SuppliedLayouts.ClosedCodes.{ending_fits}
use Rattle.lx_layout.proofs.SuppliedLayouts.CommonCodes.{AreCommon, ending_common, is_common}

simple_one : (statement : Stmt) → is_common statement ≡ true → JumpsTo (λ block. ⊥) statement → is_simple statement ≡ true
simple_one Peek common never = absurd (true≢false (sym common))
simple_one (Need units) common never = absurd (true≢false (sym common))
simple_one (Store state) common never = absurd (true≢false (sym common))
simple_one (IfUnit greatest block) common never = absurd (true≢false (sym common))
simple_one (IfIs unit block) common never = absurd (true≢false (sym common))
simple_one (IfSet set block) common never = absurd (true≢false (sym common))
simple_one (IfAccept accept block) common never = absurd never.0
simple_one (IfEnd block) common never = absurd never.0
simple_one (Try block) common never = absurd never.0
simple_one (Switch cases last) common never = absurd (true≢false (sym common))
simple_one (Goto block) common never = absurd never.0
simple_one _ common never = refl

module _ (piece : Piece) (stream : List ℕ) (Stored : ℕ → Type 0) (n : ℕ) where
  -- from the code on no unit is tested before one is read, in one step more than from blocks
  abbrev pub Up : List Stmt → Type 0
  Up code = Calm all_tests piece stream Stored 0 0 (suc n) code

  abbrev pub At : (block : ℕ) → Type 0
  At block = CalmAt all_tests piece stream Stored 0 0 n block

  abbrev pub UpAt : (block : ℕ) → Type 0
  UpAt block = CalmAt all_tests piece stream Stored 0 0 (suc n) block

  pub lower : (block : ℕ) → UpAt block → At block
  lower block h code is = fewer all_tests piece stream Stored 0 0 n code (h code is)

  pub known : (block : ℕ) (code : List Stmt) → slice_get (code_of piece.blocks) block ≡ Some code → Up code → UpAt block
  known block code at h other is = let same : code ≡ other = cc in subst (λ l. Calm all_tests piece stream Stored 0 0 (suc n) l) same h

  up : (statement : Stmt) (rest : List Stmt) → is_simple statement ≡ true → Up rest → Up (statement ∷ rest)
  up statement rest is h = fewer all_tests piece stream Stored 0 0 (suc n) (statement ∷ rest) (simple all_tests piece stream Stored 0 0 (suc n) statement rest is h)

  pub up_goto : (block : ℕ) → At block → Up (Goto block ∷ [])
  up_goto block h = goto all_tests piece stream Stored 0 0 n block [] h

  up_op : (op : Op) (rest : List Stmt) → Up rest → Up (op_code op ∷ rest)
  up_op (Here r) rest h = up (op_code (Here r)) rest refl h
  up_op (Null r) rest h = up (op_code (Null r)) rest refl h
  up_op (Copy r s) rest h = up (op_code (Copy r s)) rest refl h
  up_op (MHere r) rest h = up (op_code (MHere r)) rest refl h
  up_op (MNull r) rest h = up (op_code (MNull r)) rest refl h
  up_op (MCopy r s) rest h = up (op_code (MCopy r s)) rest refl h

  up_ops : (ops : List Op) (rest : List Stmt) → Up rest → Up (ops_code ops rest)
  up_ops [] rest h = h
  up_ops (op ∷ ops) rest h = up_op op (ops_code ops rest) (up_ops ops rest h)

  up_list : (auto : Auto) (ops : List Op) (rest : List Stmt) → Up rest → Up (list_code auto ops rest)
  up_list auto ops rest h = up_ops (sequentialized auto.regs auto.mregs ops) rest h

  up_save : (saves : Bool) (saved : Option ℕ) (rest : List Stmt) → Up rest → Up (save_code saves saved rest)
  up_save false saved rest h = h
  up_save true None rest h = up Backup rest refl h
  up_save true (Some saved) rest h = up Backup (SaveAccept saved ∷ rest) refl (up (SaveAccept saved) rest refl h)

  pub up_edge : (halting : Halting) (auto : Auto) (given : State) (saved : Option ℕ) (edge : Edge) (block : ℕ) → At block
      → Up (edge_code halting auto given saved edge block)
  up_edge halting auto given saved edge block h =
      up_save (saves_on halting given edge) saved (list_code auto given.leave (list_code auto edge.ops (Skip ∷ Goto block ∷ [])))
      (up_list auto given.leave (list_code auto edge.ops (Skip ∷ Goto block ∷ []))
      (up_list auto edge.ops (Skip ∷ Goto block ∷ []) (up Skip (Goto block ∷ []) refl (up_goto block h))))

  pub up_accept : (auto : Auto) (ops : List Op) (block : ℕ) → At block → Up (accept_code auto ops block)
  up_accept auto ops block h = up_list auto ops (Goto block ∷ []) (up_goto block h)

  pub up_restore : (block : ℕ) → At block → Up (restore_code block)
  up_restore block h = up Restore (Goto block ∷ []) refl (up_goto block h)

  -- the end of a rule
  up_none : Up []
  up_none zero le machine answers ok few = omega arith
  up_none (suc steps) le machine answers ok few = omega arith

  up_all : (code : List Stmt) → AreCommon code → AllByRecursion (JumpsTo (λ block. ⊥)) code → Up code
  up_all [] common never = up_none
  up_all (statement ∷ code) common never =
      up statement code (simple_one statement common.0 never.0) (up_all code common.1 never.1)

  pub up_ending : (endings : ℕ → Ending) (rule : ℕ) (values : List Held) → Up (ending_code endings rule values)
  up_ending endings rule values =
      up_all (ending_code endings rule values) (ending_common endings rule values) (ending_fits (λ block. ⊥) endings rule values).jumps

  -- the fallback, where what is done by rule stands in blocks
  module _ (rules : ℕ → ℕ) where
    restore_at : (block : ℕ) (list : List Accept) → StandsFrom (code_of piece.blocks) block (restore_blocks rules list)
        → AllByRecursion (λ (accept : Accept). At (rules accept.rule)) list
        → AllByRecursion (λ (choice : Choice). At choice.block) (choices_from 1 block list)
    restore_at block list stands leads = by 1 block list stands leads
      where
        by : (saved block : ℕ) (list : List Accept) → StandsFrom (code_of piece.blocks) block (restore_blocks rules list)
            → AllByRecursion (λ (accept : Accept). At (rules accept.rule)) list
            → AllByRecursion (λ (choice : Choice). At choice.block) (choices_from saved block list)
        by saved block [] stands leads = tt
        by saved block (accept ∷ list) stands leads = (
          lower block (known block (restore_code (rules accept.rule)) stands.0 (up_restore (rules accept.rule) leads.0)),
          by (suc saved) (suc block) list stands.1 leads.1,
        )

    up_choices : (leaves : Bool) (choices : List Choice) → AllByRecursion (λ (choice : Choice). At choice.block) choices → Up (fallback_code leaves choices)
    up_choices leaves [] h = up Leave [] refl up_none
    up_choices true (choice ∷ []) h =
        if_accept all_tests piece stream Stored 0 0 n choice.saved choice.block (Leave ∷ []) h.0 (fewer all_tests piece stream Stored 0 0 n (Leave ∷ []) (up Leave [] refl up_none))
    up_choices false (choice ∷ []) h = up_goto choice.block h.0
    up_choices leaves (choice ∷ next ∷ choices) h =
        if_accept all_tests piece stream Stored 0 0 n choice.saved choice.block (fallback_code leaves (next ∷ choices)) h.0
        (fewer all_tests piece stream Stored 0 0 n (fallback_code leaves (next ∷ choices)) (up_choices leaves (next ∷ choices) h.1))

    pub up_fallback : (leaves : Bool) (block : ℕ) (list : List Accept) → StandsFrom (code_of piece.blocks) block (restore_blocks rules list)
        → AllByRecursion (λ (accept : Accept). At (rules accept.rule)) list → Up (fallback_code leaves (choices_from 1 block list))
    up_fallback leaves block list stands leads = up_choices leaves (choices_from 1 block list) (restore_at block list stands leads)

  -- ---- what stands before a unit is read and where the end was read

  up_store : (stored : Option (Reader → ℕ)) (reader : Reader) (rest : List Stmt) → ((number : Reader → ℕ) → stored ≡ Some number → Stored (number reader))
      → Up rest → Up (store_code stored reader rest)
  up_store None reader rest own h = h
  up_store (Some number) reader rest own h =
      fewer all_tests piece stream Stored 0 0 (suc n) (Store (number reader) ∷ rest) (stores all_tests piece stream Stored 0 0 (suc n) (number reader) rest (own number refl) h)

  pub up_check : (stored : Option (Reader → ℕ)) (reader : Reader) (units : ℕ) (rest : List Stmt)
      → ((number : Reader → ℕ) → stored ≡ Some number → 0 ≢ units → Stored (number reader)) → Backs all_tests piece stream Stored 0 0 n → Up rest
      → Up (need_code stored reader units rest)
  up_check stored reader zero rest own backs h = h
  up_check stored reader (suc units) rest own backs h =
      up_store stored reader (Need (suc units) ∷ rest) (λ number is. own number is (λ e. omega (arith, e)))
      (checks all_tests piece stream Stored 0 0 n (suc units) rest backs (fewer all_tests piece stream Stored 0 0 n rest h))

  pub up_asks : (asked to : ℕ) → At asked → At to → Up (end_test asked to)
  up_asks asked to h g =
      if_end all_tests piece stream Stored 0 0 n asked (Goto to ∷ []) h (fewer all_tests piece stream Stored 0 0 n (Goto to ∷ []) (up_goto to g))

  pub up_tries : (stored : Option (Reader → ℕ)) (reader : Reader) (block end : ℕ) → ((number : Reader → ℕ) → stored ≡ Some number → Stored (number reader))
      → Backs all_tests piece stream Stored 0 0 n → At block → At end → Up (try_code stored reader block end)
  up_tries stored reader block end own backs h g =
      up_store stored reader (Try block ∷ Goto end ∷ []) own
      (tries all_tests piece stream Stored 0 0 n block (Goto end ∷ []) h (fewer all_tests piece stream Stored 0 0 n (Goto end ∷ []) (up_goto end g)) backs)

  pub up_back : (block end : ℕ) → At block → At end → Up (back_code block end)
  up_back block end h g =
      if_end all_tests piece stream Stored 0 0 n end (Goto block ∷ []) g (fewer all_tests piece stream Stored 0 0 n (Goto block ∷ []) (up_goto block h))
