-- A layout with a supply of units stores no state where the supply says of none by which number it is stored.
use Rattle.std.specs.Prelude.{◌≡◌, ℕ, zero, suc, true, false, List, [], ◌∷◌, Option, Some, None, refl}
use Rattle.std.proofs.Common.{sym, true≢false}
use Rattle.std.specs.List.{AllByRecursion, list_any}
use Rattle.lx_auto.specs.Automaton.{IsAuto}
use Rattle.lx_auto.specs.declared.automaton.Auto.{Auto}
use Rattle.lx_ccode.specs.Statements.{is_state}
use Rattle.lx_ccode.specs.declared.piece.Stmt.{Stmt}
use Rattle.lx_ccode.specs.declared.piece.Stmt.TheVariants.{Goto, Peek, State as Store}
use Rattle.lx_layout.specs.Endings.{Ending}
use Rattle.lx_layout.specs.Halting.{Halting}
use Rattle.lx_layout.specs.Supplies.{Reader, Supply, need_code, try_code}
use Rattle.lx_layout.specs.SuppliedLayout.{EachReader, supplied_layout}
use Rattle.lx_dispatch.specs.TestTrees.{TestTree}
use Rattle.lx_layout.proofs.BlockLayouts.Questions.{any_question}
use Rattle.lx_layout.proofs.SuppliedLayouts.CommonCodes.{is_common, none-accept, none-edge, none-ending, none-fallback}
use Rattle.lx_layout.proofs.SuppliedLayouts.EachBlock.{HoldsOfSorts}
use Rattle.lx_layout.proofs.SuppliedLayouts.HeldLayouts.{each_from-all, layout_any}
use Rattle.lx_layout.proofs.SuppliedLayouts.LeadingTrees.{LeadsWithin}

-- the code stores no state
abbrev StoresNone : List Stmt → Type 0
StoresNone code = list_any is_state code ≡ false

pub others_store : (statement : Stmt) → is_common statement ≡ true → is_state statement ≡ false
others_store (Store state) e = absurd (true≢false (sym e))
others_store _ e = refl

stores-need : (stored : Option (Reader → ℕ)) (reader : Reader) (units : ℕ) (code : List Stmt) → stored ≡ None → StoresNone code
    → StoresNone (need_code stored reader units code)
stores-need stored reader zero code none h = h
stores-need None reader (suc units) code none h = h
stores-need (Some number) reader (suc units) code none h = absurd (cc)

stores-try : (stored : Option (Reader → ℕ)) (reader : Reader) (block end : ℕ) → stored ≡ None → StoresNone (try_code stored reader block end)
stores-try None reader block end none = refl
stores-try (Some number) reader block end none = absurd (cc)

stores-sorts : (supply : Supply) (halting : Halting) (endings : ℕ → Ending) (auto : Auto) → supply.stored ≡ None
    → HoldsOfSorts (λ at code. StoresNone code) (λ block. Unit {0}) (λ unit. Unit {0}) (λ reader at. Unit {0}) (λ units. Unit {0}) (λ given edge. Unit {0})
    (λ accept. Unit {0}) (λ rule. Unit {0}) supply halting endings auto
stores-sorts supply halting endings auto none = record {
  jumps = λ block any at. refl;
  tests = λ question block code any to h. any_question (λ statement. (at : ℕ) → StoresNone (statement ∷ code)) block (λ greatest. h) (λ unit. h) (λ set. h) question;
  switches = λ cases last any to also at. refl;
  unchecked = tt;
  checks = λ reader at units block asked own any. stores-need supply.stored reader (suc units) (Goto block ∷ []) none refl;
  reads = λ reader at units code asked own h. stores-need supply.stored reader units (Peek ∷ code) none (h at);
  asks = λ asked to any also at. refl;
  tries = λ reader block end tries some own any also at next. stores-try supply.stored reader block end none;
  comes_back = λ block end any also at. refl;
  edges = λ given saved block edge any also at. none-edge is_state others_store refl halting auto given saved edge block;
  accepts = λ accept block any also at. none-accept is_state others_store auto accept.ops block;
  choices = λ leaves choices any at. none-fallback is_state others_store leaves choices;
  restores = λ block any at. refl;
  ends = λ accept any at. none-ending is_state others_store endings accept.rule accept.values;
  end_rule = λ rule any at. none-ending is_state others_store endings rule [];
}

pub layout_stores_nothing : (supply : Supply) (halting : Halting) (endings : ℕ → Ending) (end_rule : Option ℕ) (greatest : ℕ) (trees : Reader → TestTree (Option ℕ))
    (auto : Auto) (begin : ℕ) → IsAuto auto → EachReader LeadsWithin supply.eof greatest trees auto → supply.stored ≡ None
    → AllByRecursion (λ code. list_any is_state code ≡ false) (supplied_layout supply halting endings end_rule trees auto begin)
layout_stores_nothing supply halting endings end_rule greatest trees auto begin formed are none =
    each_from-all StoresNone begin (supplied_layout supply halting endings end_rule trees auto begin)
    (layout_any (λ at code. StoresNone code) (λ reader at. Unit {0}) (λ units. Unit {0}) supply halting endings auto
    (stores-sorts supply halting endings auto none) end_rule greatest trees begin formed are (λ s. tt) (λ s lt entered some. tt) (λ rule is. tt))
