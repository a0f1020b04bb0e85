-- Code whose last statement, and no other, ends it, and whose jumps go to blocks of some sort.
use Rattle.std.specs.Prelude.{◌≡◌, ℕ, zero, suc, List, [], ◌∷◌, Option, Some, None, Bool, true, false, refl, if◌then◌else◌}
use Rattle.std.proofs.Common.{sym, ap, ◌∙◌, true≢false}
use Rattle.std.specs.List.{AllByRecursion}
use Rattle.lx_auto.specs.declared.automaton.Auto.{Auto}
use Rattle.lx_auto.specs.declared.automaton.Edge.{Edge}
use Rattle.lx_auto.specs.declared.automaton.Held.{Held}
use Rattle.lx_auto.specs.declared.automaton.Held.TheVariants.{Reg, MReg}
use Rattle.lx_auto.specs.declared.automaton.State.{State}
use Rattle.lx_auto.specs.declared.ops.Op.{Op}
use Rattle.lx_auto.specs.declared.ops.Op.TheVariants.{Here, Null, Copy, MHere, MNull, MCopy}
use Rattle.lx_ccode.specs.Statements.{is_ending}
use Rattle.lx_ccode.specs.Validity.{ends_once}
use Rattle.lx_ccode.specs.declared.piece.Stmt.{Stmt}
use Rattle.lx_ccode.specs.declared.piece.Stmt.TheVariants.{Accept as SaveAccept, Back, Backup, Cond, Count, End, Goto, IfAccept, IfEnd, IfIs, IfSet, IfUnit, Need, Peek, Restore, Skip, State as Store, Try}
use Rattle.lx_sequence.specs.ParallelCopies.{sequentialized}
use Rattle.lx_layout.specs.Codes.{Choice, list_code, op_code, ops_code, save_code}
use Rattle.lx_layout.specs.Endings.{Ending, action_code, back_code, cond_code, ending_code, ends_code, groups_code, is_slash, last_code, slash_held, tag_code, tags_code, unless}
use Rattle.lx_layout.specs.Fallback.{edge_code, fallback_code}
use Rattle.lx_layout.specs.Halting.{Halting, saves_on}
use Rattle.lx_layout.specs.SuppliedLayout.{JumpsTo}
use Rattle.lx_layout.specs.Supplies.{Reader, Supply, need_code, store_code}
use Rattle.lx_layout.proofs.BlockLayouts.Questions.{any_question, targets-switch}
use Rattle.lx_layout.proofs.SuppliedLayouts.EachBlock.{HoldsOfSorts}

module _ (B : ℕ → Type 0) where
  -- the code ends once, and jumps to blocks of the sort
  pub record Fits (code : List Stmt) : Type 0 where
    pub ends : ends_once code ≡ true
    pub jumps : AllByRecursion (JumpsTo B) code

  -- with one statement more in front
  more : (statement : Stmt) (code : List Stmt) → is_ending statement ≡ false → JumpsTo B statement → Fits code → Fits (statement ∷ code)
  more statement [] goes to fits = absurd (true≢false (sym fits.ends))
  more statement (next ∷ code) goes to fits = record {
    ends = ap (λ t. if t then false else ends_once (next ∷ code)) goes ∙ fits.ends;
    jumps = (to, fits.jumps);
  }

  goto_fits : (block : ℕ) → B block → Fits (Goto block ∷ [])
  goto_fits block to = record { ends = refl; jumps = ((to, tt), tt) }

  op_fits : (op : Op) (code : List Stmt) → Fits code → Fits (op_code op ∷ code)
  op_fits (Here r) code h = more (op_code (Here r)) code refl tt h
  op_fits (Null r) code h = more (op_code (Null r)) code refl tt h
  op_fits (Copy r s) code h = more (op_code (Copy r s)) code refl tt h
  op_fits (MHere r) code h = more (op_code (MHere r)) code refl tt h
  op_fits (MNull r) code h = more (op_code (MNull r)) code refl tt h
  op_fits (MCopy r s) code h = more (op_code (MCopy r s)) code refl tt h

  ops_fits : (ops : List Op) (rest : List Stmt) → Fits rest → Fits (ops_code ops rest)
  ops_fits [] rest h = h
  ops_fits (op ∷ ops) rest h = op_fits op (ops_code ops rest) (ops_fits ops rest h)

  list_fits : (auto : Auto) (ops : List Op) (rest : List Stmt) → Fits rest → Fits (list_code auto ops rest)
  list_fits auto ops rest h = ops_fits (sequentialized auto.regs auto.mregs ops) rest h

  fallback_fits : (leaves : Bool) (choices : List Choice) → AllByRecursion (λ (choice : Choice). B choice.block) choices → Fits (fallback_code leaves choices)
  fallback_fits leaves [] to = record { ends = refl; jumps = (tt, tt) }
  fallback_fits true (choice ∷ []) to = record { ends = refl; jumps = ((to.0, tt), (tt, tt)) }
  fallback_fits false (choice ∷ []) to = goto_fits choice.block to.0
  fallback_fits leaves (choice ∷ next ∷ choices) to =
      more (IfAccept choice.saved choice.block) (fallback_code leaves (next ∷ choices)) refl (to.0, tt) (fallback_fits leaves (next ∷ choices) to.1)

  save_fits : (saves : Bool) (saved : Option ℕ) (rest : List Stmt) → Fits rest → Fits (save_code saves saved rest)
  save_fits false saved rest h = h
  save_fits true None rest h = more Backup rest refl tt h
  save_fits true (Some saved) rest h = more Backup (SaveAccept saved ∷ rest) refl tt (more (SaveAccept saved) rest refl tt h)

  edge_fits : (halting : Halting) (auto : Auto) (given : State) (saved : Option ℕ) (edge : Edge) (block : ℕ) → B block
      → Fits (edge_code halting auto given saved edge block)
  edge_fits halting auto given saved edge block to =
      save_fits (saves_on halting given edge) saved (list_code auto given.leave (list_code auto edge.ops (Skip ∷ Goto block ∷ [])))
      (list_fits auto given.leave (list_code auto edge.ops (Skip ∷ Goto block ∷ []))
      (list_fits auto edge.ops (Skip ∷ Goto block ∷ []) (more Skip (Goto block ∷ []) refl tt (goto_fits block to))))

  ends_fit : (values : List Held) (place : ℕ) (rest : List Stmt) → Fits rest → Fits (ends_code values place rest)
  ends_fit [] place rest h = h
  ends_fit (Reg r ∷ values) place rest h = more (End place (suc r)) (ends_code values (suc place) rest) refl tt (ends_fit values (suc place) rest h)
  ends_fit (MReg r ∷ values) place rest h = ends_fit values (suc place) rest h

  groups_fit : (groups : ℕ) (values : List Held) (rest : List Stmt) → Fits rest → Fits (groups_code groups values rest)
  groups_fit zero values rest h = h
  groups_fit (suc groups) values rest h = more (Count (suc groups)) (ends_code values 0 rest) refl tt (ends_fit values 0 rest h)

  tag_fits : (held : Held) (name : List ℕ) (rest : List Stmt) → Fits rest → Fits (tag_code held name ∷ rest)
  tag_fits (Reg r) name rest h = more (tag_code (Reg r) name) rest refl tt h
  tag_fits (MReg r) name rest h = more (tag_code (MReg r) name) rest refl tt h

  tags_fit : (ending : Ending) (number : ℕ) (names : List (List ℕ)) (values : List Held) (rest : List Stmt) → Fits rest
      → Fits (tags_code ending number names values rest)
  tags_fit ending number [] values rest h = groups_fit ending.groups values rest h
  tags_fit ending number (name ∷ names) [] rest h = h
  tags_fit ending number (name ∷ names) (held ∷ values) rest h = by (is_slash ending.slash number) (tags_fit ending (suc number) names values rest h)
    where
      by : (t : Bool) → Fits (tags_code ending (suc number) names values rest)
          → Fits (unless t (tag_code held name) (tags_code ending (suc number) names values rest))
      by true again = again
      by false again = tag_fits held name (tags_code ending (suc number) names values rest) again

  back_fits : (o : Option Held) (rest : List Stmt) → Fits rest → Fits (back_code o rest)
  back_fits None rest h = h
  back_fits (Some (Reg r)) rest h = more (Back (suc r)) rest refl tt h
  back_fits (Some (MReg r)) rest h = h

  last_fits : (endings : ℕ → Ending) (rule : ℕ) → Fits (last_code endings rule)
  last_fits endings rule = by (endings rule).goes_to
    where
      acts : (action : Option (List ℕ)) (forgets : Bool) → Fits (action_code rule (endings rule) action forgets)
      acts None true = record { ends = refl; jumps = (tt, (tt, tt)) }
      acts None false = record { ends = refl; jumps = (tt, tt) }
      acts (Some action) forgets = record { ends = refl; jumps = (tt, tt) }

      by : (cond : Option (List ℕ)) → Fits (cond_code cond (action_code rule (endings rule) (endings rule).action (endings rule).forgets))
      by None = acts (endings rule).action (endings rule).forgets
      by (Some cond) =
          more (Cond cond) (action_code rule (endings rule) (endings rule).action (endings rule).forgets) refl tt
          (acts (endings rule).action (endings rule).forgets)

  pub ending_fits : (endings : ℕ → Ending) (rule : ℕ) (values : List Held) → Fits (ending_code endings rule values)
  ending_fits endings rule values =
      tags_fit (endings rule) 0 (endings rule).tags values (back_code (slash_held (endings rule).slash values) (last_code endings rule))
      (back_fits (slash_held (endings rule).slash values) (last_code endings rule) (last_fits endings rule))

  store_fits : (stored : Option (Reader → ℕ)) (reader : Reader) (code : List Stmt) → Fits code → Fits (store_code stored reader code)
  store_fits None reader code h = h
  store_fits (Some number) reader code h = more (Store (number reader)) code refl tt h

  need_fits : (stored : Option (Reader → ℕ)) (reader : Reader) (units : ℕ) (code : List Stmt) → Fits code → Fits (need_code stored reader units code)
  need_fits stored reader zero code h = h
  need_fits stored reader (suc units) code h = store_fits stored reader (Need (suc units) ∷ code) (more (Need (suc units)) code refl tt h)

  pub sorts_fit : (supply : Supply) (halting : Halting) (endings : ℕ → Ending) (auto : Auto)
      → HoldsOfSorts (λ at code. Fits code) B (λ unit. Unit {0}) (λ reader at. Unit {0}) (λ units. Unit {0}) (λ given edge. Unit {0})
      (λ accept. Unit {0}) (λ rule. Unit {0}) supply halting endings auto
  sorts_fit supply halting endings auto = record {
    jumps = λ block to at. goto_fits block to;
    tests = λ question block code any to h. any_question (λ statement. (at : ℕ) → Fits (statement ∷ code)) block
        (λ greatest at. more (IfUnit greatest block) code refl (to, tt) (h at)) (λ unit at. more (IfIs unit block) code refl (to, tt) (h at))
        (λ set at. more (IfSet set block) code refl (to, tt) (h at)) question;
    switches = λ cases last any to also at. record { ends = refl; jumps = (targets-switch B cases last to also, tt) };
    unchecked = tt;
    checks = λ reader at units block asked own to. need_fits supply.stored reader (suc units) (Goto block ∷ []) (goto_fits block to);
    reads = λ reader at units code asked own h. need_fits supply.stored reader units (Peek ∷ code) (more Peek code refl tt (h at));
    asks = λ asked to there also at. more (IfEnd asked) (Goto to ∷ []) refl (there, tt) (goto_fits to also);
    tries = λ reader block end tries some own there also at next.
        store_fits supply.stored reader (Try block ∷ Goto end ∷ []) (more (Try block) (Goto end ∷ []) refl (there, tt) (goto_fits end also));
    comes_back = λ block end there also at. more (IfEnd end) (Goto block ∷ []) refl (also, tt) (goto_fits block there);
    edges = λ given saved block edge any to at. edge_fits halting auto given saved edge block to;
    accepts = λ accept block any to at. list_fits auto accept.ops (Goto block ∷ []) (goto_fits block to);
    choices = λ leaves choices to at. fallback_fits leaves choices to;
    restores = λ block to at. more Restore (Goto block ∷ []) refl tt (goto_fits block to);
    ends = λ accept any at. ending_fits endings accept.rule accept.values;
    end_rule = λ rule any at. ending_fits endings rule [];
  }
