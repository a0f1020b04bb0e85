-- A layout whose supply has no checks and tries no refill asks for nothing, and stores no state.
use Rattle.std.specs.Prelude.{◌≡◌, ℕ, zero, suc, true, false, List, [], ◌∷◌, Option, refl}
use Rattle.std.proofs.Common.{sym, ◌∙◌, arith, true≢false}
use Rattle.std.specs.List.{AllByRecursion, list_any}
use Rattle.lx_auto.specs.Automaton.{IsAuto}
use Rattle.lx_auto.specs.declared.automaton.Auto.{Auto}
use Rattle.lx_ccode.specs.Statements.{is_refill, is_state}
use Rattle.lx_ccode.specs.declared.piece.Stmt.{Stmt}
use Rattle.lx_ccode.specs.declared.piece.Stmt.TheVariants.{Need, Peek, Try}
use Rattle.lx_layout.specs.Endings.{Ending}
use Rattle.lx_layout.specs.Halting.{Halting}
use Rattle.lx_layout.specs.SuppliedLayout.{EachReader, supplied_layout}
use Rattle.lx_layout.specs.Supplies.{Reader, Supply, need_code}
use Rattle.lx_dispatch.specs.TestTrees.{TestTree}
use Rattle.lx_layout.proofs.BlockLayouts.Questions.{any_question}
use Rattle.lx_layout.proofs.SuppliedLayouts.CommonCodes.{is_common, none-accept, none-edge, none-ending, none-fallback}
use Rattle.lx_layout.proofs.SuppliedLayouts.EachBlock.{HoldsOfSorts}
use Rattle.lx_layout.proofs.SuppliedLayouts.HeldLayouts.{each_from-all, layout_any}
use Rattle.lx_layout.proofs.SuppliedLayouts.StoredNothing.{others_store}
use Rattle.lx_layout.proofs.SuppliedLayouts.LeadingTrees.{LeadsWithin}

-- the code asks for no refill and stores no state
abbrev IsQuiet : List Stmt → Type 0
IsQuiet code = (list_any is_refill code ≡ false) × (list_any is_state code ≡ false)

others_ask : (statement : Stmt) → is_common statement ≡ true → is_refill statement ≡ false
others_ask (Need units) e = absurd (true≢false (sym e))
others_ask (Try block) e = absurd (true≢false (sym e))
others_ask _ e = refl

-- a check for no units is none
read_quiet : (stored : Option (Reader → ℕ)) (reader : Reader) (units : ℕ) (code : List Stmt) → units ≡ 0 → IsQuiet code
    → IsQuiet (need_code stored reader units (Peek ∷ code))
read_quiet stored reader zero code none h = h
read_quiet stored reader (suc units) code none h = absurd (omega (arith, none))

quiet_sorts : (supply : Supply) (halting : Halting) (endings : ℕ → Ending) (auto : Auto) → supply.tries ≡ false
    → HoldsOfSorts (λ at code. IsQuiet code) (λ block. Unit {0}) (λ unit. Unit {0}) (λ reader at. Unit {0}) (λ units. units ≡ 0) (λ given edge. Unit {0})
    (λ accept. Unit {0}) (λ rule. Unit {0}) supply halting endings auto
quiet_sorts supply halting endings auto fixed = record {
  jumps = λ block any at. (refl, refl);
  tests = λ question block code any to h. any_question (λ statement. (at : ℕ) → IsQuiet (statement ∷ code)) block (λ greatest. h) (λ unit. h) (λ set. h) question;
  switches = λ cases last any to also at. (refl, refl);
  unchecked = refl;
  checks = λ reader at units block none own any. absurd (omega (arith, none));
  reads = λ reader at units code none own h. read_quiet supply.stored reader units code none (h at);
  asks = λ asked to any also at. (refl, refl);
  tries = λ reader block end tries some own any also at next. absurd (true≢false (sym tries ∙ fixed));
  comes_back = λ block end any also at. (refl, refl);
  edges = λ given saved block edge any also at.
      (none-edge is_refill others_ask refl halting auto given saved edge block, none-edge is_state others_store refl halting auto given saved edge block);
  accepts = λ accept block any also at. (none-accept is_refill others_ask auto accept.ops block, none-accept is_state others_store auto accept.ops block);
  choices = λ leaves choices any at. (none-fallback is_refill others_ask leaves choices, none-fallback is_state others_store leaves choices);
  restores = λ block any at. (refl, refl);
  ends = λ accept any at.
      (none-ending is_refill others_ask endings accept.rule accept.values, none-ending is_state others_store endings accept.rule accept.values);
  end_rule = λ rule any at. (none-ending is_refill others_ask endings rule [], none-ending is_state others_store endings rule []);
}

pub layout_quiet : (supply : Supply) (halting : Halting) (endings : ℕ → Ending) (end_rule : Option ℕ) (greatest : ℕ) (trees : Reader → TestTree (Option ℕ))
    (auto : Auto) (begin : ℕ) → IsAuto auto → EachReader LeadsWithin supply.eof greatest trees auto → supply.tries ≡ false
    → ((state : ℕ) → supply.check state ≡ 0)
    → AllByRecursion (λ code. (list_any is_refill code ≡ false) × (list_any is_state code ≡ false)) (supplied_layout supply halting endings end_rule trees auto begin)
layout_quiet supply halting endings end_rule greatest trees auto begin formed are fixed unchecked =
    each_from-all IsQuiet begin (supplied_layout supply halting endings end_rule trees auto begin)
    (layout_any (λ at code. IsQuiet code) (λ reader at. Unit {0}) (λ units. units ≡ 0) supply halting endings auto
    (quiet_sorts supply halting endings auto fixed) end_rule greatest trees begin formed are unchecked (λ s lt entered some. tt) (λ rule is. tt))
