-- Code before the ends of rules has no statement by which a rule ends or gives a value.
use Rattle.std.specs.Prelude.{◌≡◌, ℕ, zero, suc, Bool, true, false, List, [], ◌∷◌, Option, Some, None, refl}
use Rattle.std.proofs.Common.{sym, true≢false}
use Rattle.std.specs.List.{AllByRecursion}
use Rattle.lx_auto.specs.declared.automaton.Accept.{Accept}
use Rattle.lx_auto.specs.declared.automaton.Auto.{Auto}
use Rattle.lx_auto.specs.declared.automaton.Edge.{Edge}
use Rattle.lx_auto.specs.declared.automaton.State.{State}
use Rattle.lx_auto.specs.declared.ops.Op.{Op}
use Rattle.lx_auto.specs.declared.ops.Op.TheVariants.{Here, Null, Copy, MHere, MNull, MCopy}
use Rattle.lx_ccode.specs.declared.piece.Stmt.{Stmt}
use Rattle.lx_ccode.specs.declared.piece.Stmt.TheVariants.{Accept as SaveAccept, Back, Backup, Code, Cond, Count, End, Goto, IfAccept, IfEnd, IfIs, IfSet, IfUnit, Jump, Leave, Need, Peek, Restore, Skip, State as Store, Switch, Tag, Try}
use Rattle.lx_sequence.specs.ParallelCopies.{sequentialized}
use Rattle.lx_layout.specs.Codes.{Choice, list_code, op_code, ops_code, save_code}
use Rattle.lx_layout.specs.EndedRules.{ended_rule, is_given}
use Rattle.lx_layout.specs.Endings.{Ending, ending_code}
use Rattle.lx_layout.specs.Fallback.{edge_code, fallback_code}
use Rattle.lx_layout.specs.Halting.{Halting, saves_on}
use Rattle.lx_layout.specs.Supplies.{Reader, Supply, need_code, store_code}
use Rattle.lx_layout.proofs.BlockLayouts.Questions.{any_question}
use Rattle.lx_layout.proofs.SuppliedLayouts.EachBlock.{HoldsOfSorts}
use Rattle.lx_layout.specs.TreeCodes.{switch_cases}

-- no rule ends by the statement, or gives a value
abbrev pub is_inner : Stmt → Bool
is_inner (Code rule line action) = false
is_inner (Jump cond rule) = false
is_inner (Tag tag list register) = false
is_inner (Count groups) = false
is_inner (End place register) = false
is_inner (Back register) = false
is_inner (Cond cond) = false
is_inner _ = true

-- statements of a sort that has these
module _ (ok : Stmt → Bool) (all : (statement : Stmt) → is_inner statement ≡ true → ok statement ≡ true) where
  abbrev pub AreOk : List Stmt → Type 0
  AreOk code = AllByRecursion (λ statement. ok statement ≡ true) code

  more : (statement : Stmt) (code : List Stmt) → is_inner statement ≡ true → AreOk code → AreOk (statement ∷ code)
  more statement code inner h = (all statement inner, h)

  op_ok : (op : Op) (code : List Stmt) → AreOk code → AreOk (op_code op ∷ code)
  op_ok (Here r) code h = more (op_code (Here r)) code refl h
  op_ok (Null r) code h = more (op_code (Null r)) code refl h
  op_ok (Copy r s) code h = more (op_code (Copy r s)) code refl h
  op_ok (MHere r) code h = more (op_code (MHere r)) code refl h
  op_ok (MNull r) code h = more (op_code (MNull r)) code refl h
  op_ok (MCopy r s) code h = more (op_code (MCopy r s)) code refl h

  ops_ok : (ops : List Op) (rest : List Stmt) → AreOk rest → AreOk (ops_code ops rest)
  ops_ok [] rest h = h
  ops_ok (op ∷ ops) rest h = op_ok op (ops_code ops rest) (ops_ok ops rest h)

  list_ok : (auto : Auto) (ops : List Op) (rest : List Stmt) → AreOk rest → AreOk (list_code auto ops rest)
  list_ok auto ops rest h = ops_ok (sequentialized auto.regs auto.mregs ops) rest h

  goto_ok : (block : ℕ) → AreOk (Goto block ∷ [])
  goto_ok block = more (Goto block) [] refl tt

  save_ok : (saves : Bool) (saved : Option ℕ) (rest : List Stmt) → AreOk rest → AreOk (save_code saves saved rest)
  save_ok false saved rest h = h
  save_ok true None rest h = more Backup rest refl h
  save_ok true (Some saved) rest h = more Backup (SaveAccept saved ∷ rest) refl (more (SaveAccept saved) rest refl h)

  edge_ok : (halting : Halting) (auto : Auto) (given : State) (saved : Option ℕ) (edge : Edge) (block : ℕ) → AreOk (edge_code halting auto given saved edge block)
  edge_ok halting auto given saved edge block =
      save_ok (saves_on halting given edge) saved (list_code auto given.leave (list_code auto edge.ops (Skip ∷ Goto block ∷ [])))
      (list_ok auto given.leave (list_code auto edge.ops (Skip ∷ Goto block ∷ []))
      (list_ok auto edge.ops (Skip ∷ Goto block ∷ []) (more Skip (Goto block ∷ []) refl (goto_ok block))))

  fallback_ok : (leaves : Bool) (choices : List Choice) → AreOk (fallback_code leaves choices)
  fallback_ok leaves [] = more Leave [] refl tt
  fallback_ok true (choice ∷ []) = more (IfAccept choice.saved choice.block) (Leave ∷ []) refl (more Leave [] refl tt)
  fallback_ok false (choice ∷ []) = goto_ok choice.block
  fallback_ok leaves (choice ∷ next ∷ choices) =
      more (IfAccept choice.saved choice.block) (fallback_code leaves (next ∷ choices)) refl (fallback_ok leaves (next ∷ choices))

  store_ok : (stored : Option (Reader → ℕ)) (reader : Reader) (code : List Stmt) → AreOk code → AreOk (store_code stored reader code)
  store_ok None reader code h = h
  store_ok (Some number) reader code h = more (Store (number reader)) code refl h

  need_ok : (stored : Option (Reader → ℕ)) (reader : Reader) (units : ℕ) (code : List Stmt) → AreOk code → AreOk (need_code stored reader units code)
  need_ok stored reader zero code h = h
  need_ok stored reader (suc units) code h = store_ok stored reader (Need (suc units) ∷ code) (more (Need (suc units)) code refl h)

  -- and that has all statements of the ends of rules, too
  pub sorts_ok : (supply : Supply) (halting : Halting) (endings : ℕ → Ending) (auto : Auto)
      → ((rule : ℕ) → AllByRecursion (λ statement. ok statement ≡ true) (ending_code endings rule []))
      → ((accept : Accept) → AllByRecursion (λ statement. ok statement ≡ true) (ending_code endings accept.rule accept.values))
      → HoldsOfSorts (λ at code. AllByRecursion (λ statement. ok statement ≡ true) code) (λ block. Unit {0}) (λ unit. Unit {0}) (λ reader at. Unit {0})
      (λ units. Unit {0}) (λ given edge. Unit {0}) (λ accept. Unit {0}) (λ rule. Unit {0}) supply halting endings auto
  sorts_ok supply halting endings auto last ends = record {
    jumps = λ block any at. goto_ok block;
    tests = λ question block code any to h. any_question (λ statement. (at : ℕ) → AllByRecursion (λ statement. ok statement ≡ true) (statement ∷ code)) block
        (λ greatest at. more (IfUnit greatest block) code refl (h at)) (λ unit at. more (IfIs unit block) code refl (h at))
        (λ set at. more (IfSet set block) code refl (h at)) question;
    switches = λ cases last any to also at. more (Switch (switch_cases cases) last) [] refl tt;
    unchecked = tt;
    checks = λ reader at units block asked own to. need_ok supply.stored reader (suc units) (Goto block ∷ []) (goto_ok block);
    reads = λ reader at units code asked own h. need_ok supply.stored reader units (Peek ∷ code) (more Peek code refl (h at));
    asks = λ asked to there also at. more (IfEnd asked) (Goto to ∷ []) refl (goto_ok to);
    tries = λ reader block end tries some own there also at next.
        store_ok supply.stored reader (Try block ∷ Goto end ∷ []) (more (Try block) (Goto end ∷ []) refl (goto_ok end));
    comes_back = λ block end there also at. more (IfEnd end) (Goto block ∷ []) refl (goto_ok block);
    edges = λ given saved block edge any to at. edge_ok halting auto given saved edge block;
    accepts = λ accept block any to at. list_ok auto accept.ops (Goto block ∷ []) (goto_ok block);
    choices = λ leaves choices to at. fallback_ok leaves choices;
    restores = λ block to at. more Restore (Goto block ∷ []) refl (goto_ok block);
    ends = λ accept any at. ends accept;
    end_rule = λ rule any at. last rule;
  }

-- ---- two sorts that have no more in common

abbrev pub acts : Stmt → Bool
acts (Code rule line action) = true
acts statement = is_inner statement

abbrev pub jumps_on : Stmt → Bool
jumps_on (Jump cond rule) = true
jumps_on statement = is_inner statement

pub inner_acts : (statement : Stmt) → is_inner statement ≡ true → acts statement ≡ true
inner_acts (Code rule line action) e = refl
inner_acts statement e = e

pub inner_jumps : (statement : Stmt) → is_inner statement ≡ true → jumps_on statement ≡ true
inner_jumps (Jump cond rule) e = refl
inner_jumps statement e = e

pub both_inner : (statement : Stmt) → acts statement ≡ true → jumps_on statement ≡ true → is_inner statement ≡ true
both_inner (Code rule line action) a j = absurd (true≢false (sym j))
both_inner (Jump cond rule) a j = absurd (true≢false (sym a))
both_inner statement a j = a

pub inner_ends : (statement : Stmt) (rule : ℕ) → is_inner statement ≡ true → ended_rule statement ≡ Some rule → ⊥
inner_ends (Code other line action) rule inner e = true≢false (sym inner)
inner_ends (Jump cond other) rule inner e = true≢false (sym inner)
inner_ends statement rule inner e = absurd (cc)

pub inner_gives : (statement : Stmt) → is_inner statement ≡ true → is_given statement ≡ true → ⊥
inner_gives (Tag tag list register) inner e = true≢false (sym inner)
inner_gives (Count groups) inner e = true≢false (sym inner)
inner_gives (End place register) inner e = true≢false (sym inner)
inner_gives (Back register) inner e = true≢false (sym inner)
inner_gives (Cond cond) inner e = true≢false (sym inner)
inner_gives statement inner e = true≢false (sym e)

-- ends of rules that have no more than these
abbrev pub acting : ℕ → Ending
acting rule = record { tags = []; slash = None; groups = 0; goes_to = None; action = Some []; line = None; forgets = false }

abbrev pub jumping : ℕ → Ending
jumping rule = record { tags = []; slash = None; groups = 0; goes_to = None; action = None; line = None; forgets = false }
