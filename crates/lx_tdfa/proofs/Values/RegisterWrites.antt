-- Which registers operations write. The m-register of a register is the one with the number behind it.
use Rattle.std.proofs.Common.{◌≡◌, ◌≢◌, ℕ, suc, List, [], ◌∷◌, ◌++◌, Option, Some, None, if◌then◌else◌, refl, ap, ap₂, ◌∙◌, sym, append-nil, append_assoc, ne_eqb}
use Rattle.lx_auto.specs.Bank.{Bank, added_by, bank_after, history_added, history_behind, history_copied, value_after, value_behind}
use Rattle.lx_auto.specs.declared.ops.Op.{Op}
use Rattle.lx_auto.specs.declared.ops.Op.TheVariants.{Copy, Here, MCopy, MHere, MNull, Null}
use Rattle.lx_auto.proofs.Banks.{history_added-append, history_copied-append, value_after-append}

-- the operation writes neither the register with this number nor its m-register
abbrev pub Avoids : (reg : ℕ) → Op → Type 0
Avoids reg (Here target) = reg ≢ target
Avoids reg (Null target) = reg ≢ target
Avoids reg (Copy target source) = reg ≢ target
Avoids reg (MHere target) = suc reg ≢ target
Avoids reg (MNull target) = suc reg ≢ target
Avoids reg (MCopy target source) = suc reg ≢ target

-- the same of a list
abbrev pub AllAvoid : (reg : ℕ) → List Op → Type 0
AllAvoid reg [] = Unit {0}
AllAvoid reg (op ∷ ops) = Avoids reg op × AllAvoid reg ops

pub AllAvoid-append : (reg : ℕ) (front back : List Op) → AllAvoid reg front → AllAvoid reg back → AllAvoid reg (front ++ back)
AllAvoid-append reg [] back before behind = behind
AllAvoid-append reg (op ∷ front) back before behind = (before.0, AllAvoid-append reg front back before.1 behind)

value_behind-avoid : (bank : Bank) (offset : ℕ) (op : Op) (reg : ℕ) (value : Option ℕ) → Avoids reg op → value_behind bank offset op reg value ≡ value
value_behind-avoid bank offset (Here target) reg value avoids = ap (λ b. if b then Some offset else value) (ne_eqb reg target avoids)
value_behind-avoid bank offset (Null target) reg value avoids = ap (λ b. if b then None else value) (ne_eqb reg target avoids)
value_behind-avoid bank offset (Copy target source) reg value avoids = ap (λ b. if b then bank.regs source else value) (ne_eqb reg target avoids)
value_behind-avoid bank offset (MHere target) reg value avoids = refl
value_behind-avoid bank offset (MNull target) reg value avoids = refl
value_behind-avoid bank offset (MCopy target source) reg value avoids = refl

value_after-avoid : (bank : Bank) (offset : ℕ) (ops : List Op) (reg : ℕ) (value : Option ℕ) → AllAvoid reg ops → value_after bank offset ops reg value ≡ value
value_after-avoid bank offset [] reg value avoids = refl
value_after-avoid bank offset (op ∷ ops) reg value avoids =
    value_after-avoid bank offset ops reg (value_behind bank offset op reg value) avoids.1 ∙ value_behind-avoid bank offset op reg value avoids.0

history_behind-avoid : (bank : Bank) (op : Op) (reg : ℕ) (history : List (Option ℕ)) → Avoids reg op → history_behind bank op (suc reg) history ≡ history
history_behind-avoid bank (Here target) reg history avoids = refl
history_behind-avoid bank (Null target) reg history avoids = refl
history_behind-avoid bank (Copy target source) reg history avoids = refl
history_behind-avoid bank (MHere target) reg history avoids = refl
history_behind-avoid bank (MNull target) reg history avoids = refl
history_behind-avoid bank (MCopy target source) reg history avoids = ap (λ b. if b then bank.mregs source else history) (ne_eqb (suc reg) target avoids)

history_copied-avoid : (bank : Bank) (ops : List Op) (reg : ℕ) (history : List (Option ℕ)) → AllAvoid reg ops → history_copied bank ops (suc reg) history ≡ history
history_copied-avoid bank [] reg history avoids = refl
history_copied-avoid bank (op ∷ ops) reg history avoids =
    history_copied-avoid bank ops reg (history_behind bank op (suc reg) history) avoids.1 ∙ history_behind-avoid bank op reg history avoids.0

added_by-avoid : (offset : ℕ) (op : Op) (reg : ℕ) → Avoids reg op → added_by offset op (suc reg) ≡ []
added_by-avoid offset (Here target) reg avoids = refl
added_by-avoid offset (Null target) reg avoids = refl
added_by-avoid offset (Copy target source) reg avoids = refl
added_by-avoid offset (MHere target) reg avoids = ap (λ b. if b then Some offset ∷ [] else []) (ne_eqb (suc reg) target avoids)
added_by-avoid offset (MNull target) reg avoids = ap (λ b. if b then None ∷ [] else []) (ne_eqb (suc reg) target avoids)
added_by-avoid offset (MCopy target source) reg avoids = refl

history_added-avoid : (offset : ℕ) (ops : List Op) (reg : ℕ) → AllAvoid reg ops → history_added offset ops (suc reg) ≡ []
history_added-avoid offset [] reg avoids = refl
history_added-avoid offset (op ∷ ops) reg avoids =
    ap₂ (λ a b. a ++ b) (added_by-avoid offset op reg avoids.0) (history_added-avoid offset ops reg avoids.1)

-- what a list does not write stays
pub regs-avoid : (bank : Bank) (offset : ℕ) (ops : List Op) (reg : ℕ) → AllAvoid reg ops → (bank_after offset ops bank).regs reg ≡ bank.regs reg
regs-avoid bank offset ops reg avoids = value_after-avoid bank offset ops reg (bank.regs reg) avoids

pub mregs-avoid : (bank : Bank) (offset : ℕ) (ops : List Op) (reg : ℕ) → AllAvoid reg ops
    → (bank_after offset ops bank).mregs (suc reg) ≡ bank.mregs (suc reg)
mregs-avoid bank offset ops reg avoids =
    ap₂ (λ a b. a ++ b) (history_copied-avoid bank ops reg (bank.mregs (suc reg)) avoids) (history_added-avoid offset ops reg avoids)
    ∙ append-nil (bank.mregs (suc reg))

-- of a list that writes a register and its m-register in one block alone
pub record IsAlone (reg : ℕ) (ops block : List Op) : Type 0 where
  pub front : List Op
  pub back : List Op
  pub is : ops ≡ front ++ (block ++ back)
  pub before : AllAvoid reg front
  pub behind : AllAvoid reg back

pub alone : (reg : ℕ) (block back : List Op) → AllAvoid reg back → IsAlone reg (block ++ back) block
alone reg block back behind = record { front = []; back = back; is = refl; before = tt; behind = behind }

pub alone-behind : (reg : ℕ) (more ops block : List Op) → AllAvoid reg more → IsAlone reg ops block → IsAlone reg (more ++ ops) block
alone-behind reg more ops block avoids is = record {
  front = more ++ is.front;
  back = is.back;
  is = ap (λ l. more ++ l) is.is ∙ sym (append_assoc more is.front (block ++ is.back));
  before = AllAvoid-append reg more is.front avoids is.before;
  behind = is.behind;
}

pub alone-before : (reg : ℕ) (ops more block : List Op) → AllAvoid reg more → IsAlone reg ops block → IsAlone reg (ops ++ more) block
alone-before reg ops more block avoids is = record {
  front = is.front;
  back = is.back ++ more;
  is = ap (λ l. l ++ more) is.is ∙ append_assoc is.front (block ++ is.back) more
      ∙ ap (λ l. is.front ++ l) (append_assoc block is.back more);
  before = is.before;
  behind = AllAvoid-append reg is.back more is.behind avoids;
}

module _ (bank : Bank) (offset reg : ℕ) (ops block : List Op) (is : IsAlone reg ops block) where
  -- the block alone counts
  pub regs-alone : (bank_after offset ops bank).regs reg ≡ (bank_after offset block bank).regs reg
  regs-alone =
      let value : Option ℕ = bank.regs reg in
      ap (λ l. value_after bank offset l reg value) is.is
      ∙ value_after-append bank offset is.front (block ++ is.back) reg value
      ∙ ap (λ v. value_after bank offset (block ++ is.back) reg v) (value_after-avoid bank offset is.front reg value is.before)
      ∙ value_after-append bank offset block is.back reg value
      ∙ value_after-avoid bank offset is.back reg (value_after bank offset block reg value) is.behind

  copied : history_copied bank ops (suc reg) (bank.mregs (suc reg)) ≡ history_copied bank block (suc reg) (bank.mregs (suc reg))
  copied =
      let history : List (Option ℕ) = bank.mregs (suc reg) in
      ap (λ l. history_copied bank l (suc reg) history) is.is
      ∙ history_copied-append bank is.front (block ++ is.back) (suc reg) history
      ∙ ap (λ h. history_copied bank (block ++ is.back) (suc reg) h) (history_copied-avoid bank is.front reg history is.before)
      ∙ history_copied-append bank block is.back (suc reg) history
      ∙ history_copied-avoid bank is.back reg (history_copied bank block (suc reg) history) is.behind

  added : history_added offset ops (suc reg) ≡ history_added offset block (suc reg)
  added =
      ap (λ l. history_added offset l (suc reg)) is.is
      ∙ history_added-append offset is.front (block ++ is.back) (suc reg)
      ∙ ap (λ l. l ++ history_added offset (block ++ is.back) (suc reg)) (history_added-avoid offset is.front reg is.before)
      ∙ history_added-append offset block is.back (suc reg)
      ∙ ap (λ l. history_added offset block (suc reg) ++ l) (history_added-avoid offset is.back reg is.behind)
      ∙ append-nil (history_added offset block (suc reg))

  pub mregs-alone : (bank_after offset ops bank).mregs (suc reg) ≡ (bank_after offset block bank).mregs (suc reg)
  mregs-alone = ap₂ (λ a b. a ++ b) copied added
