-- A layout with a supply of units reads a unit only in the block of a state with an edge, and in that of an entry that stands apart.
use Rattle.std.specs.Prelude.{◌≡◌, ℕ, suc, Bool, true, false, List, [], ◌∷◌, Option, Some, None, refl}
use Rattle.std.proofs.Common.{sym, ◌∙◌, true≢false}
use Rattle.std.specs.List.{list_any}
use Rattle.lx_auto.specs.declared.automaton.Auto.{Auto}
use Rattle.lx_ccode.specs.Traces.{is_peek}
use Rattle.lx_ccode.specs.declared.piece.Stmt.{Stmt}
use Rattle.lx_ccode.specs.declared.piece.Stmt.TheVariants.{Goto, Peek, Switch}
use Rattle.lx_layout.specs.Codes.{accept_code}
use Rattle.lx_layout.specs.Endings.{Ending, ending_code}
use Rattle.lx_layout.specs.Fallback.{edge_code, fallback_code}
use Rattle.lx_layout.specs.Halting.{Halting}
use Rattle.lx_layout.specs.Supplies.{Reader, Supply, need_code, try_code}
use Rattle.lx_layout.proofs.BlockLayouts.Questions.{any_question}
use Rattle.lx_layout.proofs.SuppliedLayouts.CommonCodes.{is_common, none-accept, none-edge, none-ending, none-fallback}
use Rattle.lx_layout.proofs.SuppliedLayouts.EachBlock.{HoldsOfSorts}
use Rattle.lx_layout.specs.TreeCodes.{switch_cases}

-- the code reads a unit
abbrev pub peeks : List Stmt → Bool
peeks code = list_any is_peek code

pub others_peek : (statement : Stmt) → is_common statement ≡ true → is_peek statement ≡ false
others_peek Peek e = absurd (true≢false (sym e))
others_peek _ e = refl

peeks-check : (stored : Option (Reader → ℕ)) (reader : Reader) (units block : ℕ) → peeks (need_code stored reader (suc units) (Goto block ∷ [])) ≡ false
peeks-check None reader units block = refl
peeks-check (Some number) reader units block = refl

peeks-try : (stored : Option (Reader → ℕ)) (reader : Reader) (block end : ℕ) → peeks (try_code stored reader block end) ≡ false
peeks-try None reader block end = refl
peeks-try (Some number) reader block end = refl

-- where a unit is read stands what reads
module _ (Home : ℕ → Type 0) where
  abbrev pub ReadsAtHome : ℕ → List Stmt → Type 0
  ReadsAtHome at code = peeks code ≡ true → Home at

  never : (code : List Stmt) (at : ℕ) → peeks code ≡ false → ReadsAtHome at code
  never code at none some = absurd (true≢false (sym some ∙ none))

  pub peeks-sorts : (supply : Supply) (halting : Halting) (endings : ℕ → Ending) (auto : Auto)
      → HoldsOfSorts ReadsAtHome (λ block. Unit {0}) (λ unit. Unit {0}) (λ reader at. Home at) (λ units. Unit {0}) (λ given edge. Unit {0}) (λ accept. Unit {0})
      (λ rule. Unit {0}) supply halting endings auto
  peeks-sorts supply halting endings auto = record {
    jumps = λ block any at some. absurd (true≢false (sym some));
    tests = λ question block code any to h. any_question (λ statement. (at : ℕ) → ReadsAtHome at (statement ∷ code)) block (λ greatest. h) (λ unit. h) (λ set. h) question;
    switches = λ cases last any to also at. never (Switch (switch_cases cases) last ∷ []) at refl;
    unchecked = tt;
    checks = λ reader at units block asked own any. never (need_code supply.stored reader (suc units) (Goto block ∷ [])) at
        (peeks-check supply.stored reader units block);
    reads = λ reader at units code asked own h some. own;
    asks = λ asked to any also at some. absurd (true≢false (sym some));
    tries = λ reader block end tries some own any also at next. never (try_code supply.stored reader block end) at (peeks-try supply.stored reader block end);
    comes_back = λ block end any also at some. absurd (true≢false (sym some));
    edges = λ given saved block edge any also at.
        never (edge_code halting auto given saved edge block) at (none-edge is_peek others_peek refl halting auto given saved edge block);
    accepts = λ accept block any also at. never (accept_code auto accept.ops block) at (none-accept is_peek others_peek auto accept.ops block);
    choices = λ leaves choices any at. never (fallback_code leaves choices) at (none-fallback is_peek others_peek leaves choices);
    restores = λ block any at some. absurd (true≢false (sym some));
    ends = λ accept any at.
        never (ending_code endings accept.rule accept.values) at (none-ending is_peek others_peek endings accept.rule accept.values);
    end_rule = λ rule any at. never (ending_code endings rule []) at (none-ending is_peek others_peek endings rule []);
  }
