-- Lists of operations, one operation behind another.
use Rattle.std.proofs.Common.{◌≡◌, ℕ, zero, suc, ◌+◌, ◌<◌, List, [], ◌∷◌, ◌++◌, length, map, get_or, drop, replicate, Option, refl, sym, ap, ◌∙◌, append_assoc, arith}
use Rattle.std.proofs.lemmas.List.{drop_more}
use Rattle.lx_auto.specs.declared.ops.Op.{Op}
use Rattle.lx_auto.specs.Automaton.{AreOps, IsOp}
use Rattle.lx_auto.specs.Bank.{Bank, added_by, history_added, history_behind, history_copied, value_after, value_behind}

-- an operation at a place
pub op-at : (regs mregs : ℕ) (ops : List Op) (place : ℕ) (none : Op) → AreOps regs mregs ops → place < length ops
    → IsOp regs mregs (get_or ops place none)
op-at regs mregs [] place none are within = absurd (omega arith)
op-at regs mregs (first ∷ ops) zero none are within = are.0
op-at regs mregs (first ∷ ops) (suc place) none are within = op-at regs mregs ops place none are.1 (omega arith)

-- and what a function gives for it
pub map-at : {X : Type 0} (f : Op → X) (ops : List Op) (place : ℕ) (none : Op) (nothing : X) → place < length ops
    → get_or (map f ops) place nothing ≡ f (get_or ops place none)
map-at f [] place none nothing within = absurd (omega arith)
map-at f (first ∷ ops) zero none nothing within = refl
map-at f (first ∷ ops) (suc place) none nothing within = map-at f ops place none nothing (omega arith)

module _ (ops : List Op) (place : ℕ) (none : Op) (within : place < length ops) where
  abbrev here : Op
  here = get_or ops place none

  rest-at : drop place ops ≡ here ∷ drop (place + 1) ops
  rest-at = drop_more ops place none within

  pub value_after-step : (bank : Bank) (offset reg : ℕ) (before after : Option ℕ) → after ≡ value_behind bank offset here reg before
      → value_after bank offset (drop (place + 1) ops) reg after ≡ value_after bank offset (drop place ops) reg before
  value_after-step bank offset reg before after same =
      ap (λ v. value_after bank offset (drop (place + 1) ops) reg v) same
      ∙ ap (λ l. value_after bank offset l reg before) (sym rest-at)

  pub history_copied-step : (bank : Bank) (mreg : ℕ) (before after : List (Option ℕ)) → after ≡ history_behind bank here mreg before
      → history_copied bank (drop (place + 1) ops) mreg after ≡ history_copied bank (drop place ops) mreg before
  history_copied-step bank mreg before after same =
      ap (λ v. history_copied bank (drop (place + 1) ops) mreg v) same
      ∙ ap (λ l. history_copied bank l mreg before) (sym rest-at)

  pub history_added-step : (offset mreg : ℕ) (before after : List (Option ℕ)) → after ≡ before ++ added_by offset here mreg
      → after ++ history_added offset (drop (place + 1) ops) mreg ≡ before ++ history_added offset (drop place ops) mreg
  history_added-step offset mreg before after same =
      ap (λ v. v ++ history_added offset (drop (place + 1) ops) mreg) same
      ∙ append_assoc before (added_by offset here mreg) (history_added offset (drop (place + 1) ops) mreg)
      ∙ ap (λ l. before ++ history_added offset l mreg) (sym rest-at)

-- ---- banks

-- banks that hold the same are the same
pub same-bank : (bank other : Bank) → ((reg : ℕ) → bank.regs reg ≡ other.regs reg)
    → ((mreg : ℕ) → bank.mregs mreg ≡ other.mregs mreg) → bank ≡ other
same-bank bank other regs mregs = (λ i. record { regs = λ reg. regs reg i; mregs = λ mreg. mregs mreg i })

-- where nothing stands everywhere
pub nothing-at : {X : Type 0} (none : X) (count place : ℕ) → get_or (replicate count none) place none ≡ none
nothing-at none zero place = refl
nothing-at none (suc count) zero = refl
nothing-at none (suc count) (suc place) = nothing-at none count place
