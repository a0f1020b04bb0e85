-- What holds of each statement of a layout, if it holds of the statements of each sort.
use Rattle.std.specs.Prelude.{◌≡◌, ℕ, zero, suc, Bool, true, false, List, [], ◌∷◌, map, Option, Some, None, is_some, refl}
use Rattle.std.specs.List.{AllByRecursion}
use Rattle.lx_auto.specs.declared.automaton.Accept.{Accept}
use Rattle.lx_auto.specs.declared.automaton.Auto.{Auto}
use Rattle.lx_auto.specs.declared.automaton.Edge.{Edge}
use Rattle.lx_auto.specs.declared.automaton.State.{State}
use Rattle.lx_auto.specs.declared.ops.Op.{Op}
use Rattle.lx_ccode.specs.declared.piece.Stmt.{Stmt}
use Rattle.lx_ccode.specs.declared.piece.Stmt.TheVariants.{Accept as SaveAccept, Backup, Goto, IfAccept, IfEnd, Leave, Need, Peek, Restore, Skip, State as Store, Switch, Try}
use Rattle.lx_sequence.specs.ParallelCopies.{sequentialized}
use Rattle.lx_layout.specs.Codes.{Choice, list_code, op_code, ops_code, save_code}
use Rattle.lx_layout.specs.Endings.{Ending, ending_code}
use Rattle.lx_layout.specs.Fallback.{fallback_code}
use Rattle.lx_layout.specs.Halting.{Halting, saves_on}
use Rattle.lx_layout.specs.Supplies.{Reader, Supply, need_code, store_code}
use Rattle.lx_dispatch.specs.TestTrees.{Asked, Question, by_cases, by_question}
use Rattle.lx_layout.specs.TreeCodes.{asks, switch_cases}
use Rattle.lx_layout.proofs.PartLayouts.PlainBlocks.{HoldsOfPlain, OfKept}
use Rattle.lx_layout.proofs.PartLayouts.ReaderBlocks.{HoldsOfReaders}

-- States are saved by numbers of some sort.
module _ (Q : Stmt → Type 0) (S : ℕ → Type 0) (halting : Halting) (endings : ℕ → Ending) (auto : Auto) where
  pub record PlainStatements : Type 0 where
    pub goes : (block : ℕ) → Q (Goto block)
    pub skips : Q Skip
    pub backs_up : Q Backup
    pub restores : Q Restore
    pub leaves : Q Leave
    pub saves : (saved : ℕ) → S saved → Q (SaveAccept saved)
    pub chooses : (saved block : ℕ) → S saved → Q (IfAccept saved block)

  -- it holds of the operations of a list
  abbrev pub OfOps : List Op → Type 0
  OfOps ops = AllByRecursion (λ op. Q (op_code op)) (sequentialized auto.regs auto.mregs ops)

  abbrev pub OfEdge : State → Edge → Type 0
  OfEdge given edge = OfOps given.leave × OfOps edge.ops

  abbrev pub OfEnd : Accept → Type 0
  OfEnd accept = OfOps accept.ops × AllByRecursion Q (ending_code endings accept.rule accept.values)

  abbrev pub OfEndRule : (rule : ℕ) → Type 0
  OfEndRule rule = AllByRecursion Q (ending_code endings rule [])

  module _ (holds : PlainStatements) where
    ops_each : (ops : List Op) (rest : List Stmt) → AllByRecursion (λ op. Q (op_code op)) ops → AllByRecursion Q rest → AllByRecursion Q (ops_code ops rest)
    ops_each [] rest are h = h
    ops_each (op ∷ ops) rest are h = (are.0, ops_each ops rest are.1 h)

    list_each : (ops : List Op) (rest : List Stmt) → OfOps ops → AllByRecursion Q rest → AllByRecursion Q (list_code auto ops rest)
    list_each ops rest are h = ops_each (sequentialized auto.regs auto.mregs ops) rest are h

    save_each : (saves : Bool) (saved : Option ℕ) (rest : List Stmt) → OfKept S saved → AllByRecursion Q rest → AllByRecursion Q (save_code saves saved rest)
    save_each false saved rest is h = h
    save_each true None rest is h = (holds.backs_up, h)
    save_each true (Some saved) rest is h = (holds.backs_up, (holds.saves saved is, h))

    choices_each : (leaves : Bool) (choices : List Choice) → AllByRecursion (λ (choice : Choice). S choice.saved) choices
        → AllByRecursion Q (fallback_code leaves choices)
    choices_each leaves [] h = (holds.leaves, tt)
    choices_each true (choice ∷ []) h = (holds.chooses choice.saved choice.block h.0, (holds.leaves, tt))
    choices_each false (choice ∷ []) h = (holds.goes choice.block, tt)
    choices_each leaves (choice ∷ next ∷ choices) h = (holds.chooses choice.saved choice.block h.0, choices_each leaves (next ∷ choices) h.1)

    pub plain_statements : HoldsOfPlain (AllByRecursion Q) S OfEdge OfEnd OfEndRule halting endings auto
    plain_statements = record {
      jumps = λ block. (holds.goes block, tt);
      edges = λ given saved block edge is are.
          save_each (saves_on halting given edge) saved (list_code auto given.leave (list_code auto edge.ops (Skip ∷ Goto block ∷ []))) is
          (list_each given.leave (list_code auto edge.ops (Skip ∷ Goto block ∷ [])) are.0
          (list_each edge.ops (Skip ∷ Goto block ∷ []) are.1 (holds.skips, (holds.goes block, tt))));
      accepts = λ accept block are. list_each accept.ops (Goto block ∷ []) are.0 (holds.goes block, tt);
      choices = λ leaves choices are. choices_each leaves choices are;
      restores = λ block. (holds.restores, (holds.goes block, tt));
      ends = λ accept are. are.1;
      end_rule = λ rule are. are;
    }

-- Tests ask something of some sort, readers are of some sort, and checks are for so many units.
module _ (Q : Stmt → Type 0) (G : Asked → Type 0) (R : Reader → Type 0) (C : ℕ → Type 0) (supply : Supply) where
  pub record ReaderStatements : Type 0 where
    pub goes : (block : ℕ) → Q (Goto block)
    pub unit : (question : Question) (block : ℕ) → G (by_question question) → Q (asks question block)
    pub switches : (cases : List (List ℕ × ℕ)) (last : ℕ) → G (by_cases (map (λ case. case.0) cases)) → Q (Switch (switch_cases cases) last)
    pub peeks : Q Peek
    pub unchecked : C 0
    pub needs : (units : ℕ) → C (suc units) → Q (Need (suc units))
    pub stores : (number : Reader → ℕ) (reader : Reader) → supply.stored ≡ Some number → R reader → Q (Store (number reader))
    pub tries : (block : ℕ) → is_some supply.eof ≡ true → supply.tries ≡ true → Q (Try block)
    pub at_end : (block : ℕ) → Q (IfEnd block)

  module _ (holds : ReaderStatements) where
    store_each : (back : Option (Reader → ℕ)) (reader : Reader) (rest : List Stmt) → supply.stored ≡ back → R reader → AllByRecursion Q rest
        → AllByRecursion Q (store_code back reader rest)
    store_each None reader rest same is h = h
    store_each (Some number) reader rest same is h = (holds.stores number reader same is, h)

    need_each : (reader : Reader) (units : ℕ) (rest : List Stmt) → R reader → C units → AllByRecursion Q rest
        → AllByRecursion Q (need_code supply.stored reader units rest)
    need_each reader zero rest is some h = h
    need_each reader (suc units) rest is some h =
        store_each supply.stored reader (Need (suc units) ∷ rest) refl is (holds.needs units some, h)

    pub reader_statements : HoldsOfReaders (AllByRecursion Q) G R C supply
    reader_statements = record {
      leads = λ block. (holds.goes block, tt);
      tests = λ question block code is h. (holds.unit question block is, h);
      switches = λ cases last is. (holds.switches cases last is, tt);
      checks = λ reader units block is some. need_each reader (suc units) (Goto block ∷ []) is some (holds.goes block, tt);
      reads = λ reader units code is some h. need_each reader units (Peek ∷ code) is some (holds.peeks, h);
      unchecked = holds.unchecked;
      asks = λ asked to. (holds.at_end asked, (holds.goes to, tt));
      tries = λ reader block end is some tries.
          store_each supply.stored reader (Try block ∷ Goto end ∷ []) refl is (holds.tries block some tries, (holds.goes end, tt));
      comes_back = λ block end. (holds.at_end end, (holds.goes block, tt));
    }
