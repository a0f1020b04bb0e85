-- Checks stand in the code of what reads alone, and one check in each.
use Rattle.std.specs.Prelude.{◌≡◌, ◌⊎◌, ℕ, zero, suc, true, false, List, [], ◌∷◌, Option, Some, None, refl}
use Rattle.std.proofs.Common.{inl, inr, sym, true≢false}
use Rattle.std.specs.List.{AllByRecursion, list_any}
use Rattle.lx_auto.specs.declared.automaton.Auto.{Auto}
use Rattle.lx_ccode.specs.Statements.{is_need}
use Rattle.lx_ccode.specs.declared.piece.Stmt.{Stmt}
use Rattle.lx_ccode.specs.declared.piece.Stmt.TheVariants.{Goto, Need, Peek}
use Rattle.lx_layout.specs.CheckedStates.{needed}
use Rattle.lx_layout.specs.Endings.{Ending}
use Rattle.lx_layout.specs.Halting.{Halting}
use Rattle.lx_layout.specs.Supplies.{Reader, Supply, need_code, try_code}
use Rattle.lx_layout.proofs.BlockLayouts.Questions.{any_question}
use Rattle.lx_layout.proofs.SuppliedLayouts.CommonCodes.{is_common, none-accept, none-edge, none-ending, none-fallback}
use Rattle.lx_layout.proofs.SuppliedLayouts.EachBlock.{HoldsOfSorts}

-- the code has no check
abbrev pub ChecksNone : List Stmt → Type 0
ChecksNone code = list_any is_need code ≡ false

-- a check is for so many units
abbrev pub IsCheckFor : (units : ℕ) → Stmt → Type 0
IsCheckFor units (Need other) = other ≡ units
IsCheckFor units _ = Unit {0}

-- the code checks for units, and all its checks are for as many
abbrev pub ChecksOnce : List Stmt → Type 0
ChecksOnce code = (units : ℕ) × (needed code ≡ suc units) × AllByRecursion (IsCheckFor (suc units)) code

pub others_check : (statement : Stmt) → is_common statement ≡ true → is_need statement ≡ false
others_check (Need units) e = absurd (true≢false (sym e))
others_check _ e = refl

pub none_needed : (code : List Stmt) → ChecksNone code → needed code ≡ 0
none_needed [] e = refl
none_needed (Need units ∷ code) e = absurd (true≢false e)
none_needed (statement ∷ code) e = none_needed code e

-- code without a check has none for another number of units
none_other : (units : ℕ) (code : List Stmt) → ChecksNone code → AllByRecursion (IsCheckFor units) code
none_other units [] e = tt
none_other units (Need other ∷ code) e = absurd (true≢false e)
none_other units (statement ∷ code) e = (tt, none_other units code e)

-- behind a check no code checks again
pub needed-check : (stored : Option (Reader → ℕ)) (reader : Reader) (units : ℕ) (code : List Stmt) → ChecksNone code
    → needed (need_code stored reader units code) ≡ units
needed-check stored reader zero code e = none_needed code e
needed-check None reader (suc units) code e = refl
needed-check (Some number) reader (suc units) code e = refl

once-check : (stored : Option (Reader → ℕ)) (reader : Reader) (units : ℕ) (code : List Stmt) → ChecksNone code
    → ChecksOnce (need_code stored reader (suc units) code)
once-check None reader units code e = (units, refl, (refl, none_other (suc units) code e))
once-check (Some number) reader units code e = (units, refl, (tt, (refl, none_other (suc units) code e)))

none-try : (stored : Option (Reader → ℕ)) (reader : Reader) (block end : ℕ) → ChecksNone (try_code stored reader block end)
none-try None reader block end = refl
none-try (Some number) reader block end = refl

-- Where units are checked for stands what reads. This is not so of one block.
module _ (Home : ℕ → Type 0) (outside : ℕ) (never : Home outside → ⊥) where
  abbrev pub ChecksAtHome : ℕ → List Stmt → Type 0
  ChecksAtHome at code = ChecksNone code ⊎ (Home at × ChecksOnce code)

  -- what holds in all blocks has no check
  nowhere : (code : List Stmt) → ((at : ℕ) → ChecksAtHome at code) → ChecksNone code
  nowhere code h = by (h outside)
    where
      by : ChecksAtHome outside code → ChecksNone code
      by (inl none) = none
      by (inr there) = absurd (never there.0)

  reads-home : (stored : Option (Reader → ℕ)) (reader : Reader) (at units : ℕ) (code : List Stmt) → Home at → ChecksNone code
      → ChecksAtHome at (need_code stored reader units (Peek ∷ code))
  reads-home stored reader at zero code home none = inl none
  reads-home stored reader at (suc units) code home none = inr (home, once-check stored reader units (Peek ∷ code) none)

  pub checked_sorts : (supply : Supply) (halting : Halting) (endings : ℕ → Ending) (auto : Auto)
      → HoldsOfSorts ChecksAtHome (λ block. Unit {0}) (λ unit. Unit {0}) (λ reader at. Home at) (λ units. Unit {0}) (λ given edge. Unit {0}) (λ accept. Unit {0})
      (λ rule. Unit {0}) supply halting endings auto
  checked_sorts supply halting endings auto = record {
    jumps = λ block any at. inl refl;
    tests = λ question block code any to h. any_question (λ statement. (at : ℕ) → ChecksAtHome at (statement ∷ code)) block (λ greatest at. inl (nowhere code h))
        (λ unit at. inl (nowhere code h)) (λ set at. inl (nowhere code h)) question;
    switches = λ cases last any to also at. inl refl;
    unchecked = tt;
    checks = λ reader at units block asked home any. inr (home, once-check supply.stored reader units (Goto block ∷ []) refl);
    reads = λ reader at units code asked home h. reads-home supply.stored reader at units code home (nowhere code h);
    asks = λ asked to any also at. inl refl;
    tries = λ reader block end tries some own any also at next. inl (none-try supply.stored reader block end);
    comes_back = λ block end any also at. inl refl;
    edges = λ given saved block edge any also at. inl (none-edge is_need others_check refl halting auto given saved edge block);
    accepts = λ accept block any also at. inl (none-accept is_need others_check auto accept.ops block);
    choices = λ leaves choices any at. inl (none-fallback is_need others_check leaves choices);
    restores = λ block any at. inl refl;
    ends = λ accept any at. inl (none-ending is_need others_check endings accept.rule accept.values);
    end_rule = λ rule any at. inl (none-ending is_need others_check endings rule []);
  }
