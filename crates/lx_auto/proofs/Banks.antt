-- What lists of operations do to registers.
use Rattle.std.proofs.Common.{◌≡◌, ℕ, ◌<◌, List, [], ◌∷◌, ◌++◌, Option, Some, None, false, refl, if◌then◌else◌, nat_eq, sym, ap, ◌∙◌, append-nil, append_assoc, arith}
use Rattle.std.proofs.lemmas.Bool.{eq-eqb, ne_eqb}
use Rattle.lx_auto.specs.declared.ops.Op.{Op}
use Rattle.lx_auto.specs.declared.ops.Op.TheVariants.{Here, Null, Copy, MHere, MNull, MCopy}
use Rattle.lx_auto.specs.Automaton.{AreOps, IsOp}
use Rattle.lx_auto.specs.Bank.{Bank, added_by, bank_after, history_added, history_behind, history_copied, value_after, value_behind}

pub value_after-append : (bank : Bank) (offset : ℕ) (front back : List Op) (reg : ℕ) (value : Option ℕ)
    → value_after bank offset (front ++ back) reg value ≡ value_after bank offset back reg (value_after bank offset front reg value)
value_after-append bank offset [] back reg value = refl
value_after-append bank offset (op ∷ front) back reg value = value_after-append bank offset front back reg (value_behind bank offset op reg value)

pub history_copied-append : (bank : Bank) (front back : List Op) (mreg : ℕ) (history : List (Option ℕ))
    → history_copied bank (front ++ back) mreg history ≡ history_copied bank back mreg (history_copied bank front mreg history)
history_copied-append bank [] back mreg history = refl
history_copied-append bank (op ∷ front) back mreg history = history_copied-append bank front back mreg (history_behind bank op mreg history)

pub history_added-append : (offset : ℕ) (front back : List Op) (mreg : ℕ)
    → history_added offset (front ++ back) mreg ≡ history_added offset front mreg ++ history_added offset back mreg
history_added-append offset [] back mreg = refl
history_added-append offset (op ∷ front) back mreg =
    ap (λ l. added_by offset op mreg ++ l) (history_added-append offset front back mreg)
    ∙ sym (append_assoc (added_by offset op mreg) (history_added offset front mreg) (history_added offset back mreg))

pub copied_value : (bank : Bank) (offset : ℕ) (ops : List Op) (target source : ℕ)
    → (bank_after offset (ops ++ Copy target source ∷ []) bank).regs target ≡ bank.regs source
copied_value bank offset ops target source =
    value_after-append bank offset ops (Copy target source ∷ []) target (bank.regs target)
    ∙ ap (λ b. if b then bank.regs source else value_after bank offset ops target (bank.regs target)) (eq-eqb target target refl)

pub copied_history : (bank : Bank) (offset : ℕ) (ops : List Op) (target source : ℕ)
    → (bank_after offset (ops ++ MCopy target source ∷ []) bank).mregs target ≡ bank.mregs source ++ history_added offset ops target
copied_history bank offset ops target source =
    let copied : history_copied bank (ops ++ MCopy target source ∷ []) target (bank.mregs target) ≡ bank.mregs source =
    history_copied-append bank ops (MCopy target source ∷ []) target (bank.mregs target)
    ∙ ap (λ b. if b then bank.mregs source else history_copied bank ops target (bank.mregs target)) (eq-eqb target target refl) in
    let added : history_added offset (ops ++ MCopy target source ∷ []) target ≡ history_added offset ops target =
    history_added-append offset ops (MCopy target source ∷ []) target ∙ append-nil (history_added offset ops target) in
    (λ i. copied i ++ added i)

-- an operation that may write leaves m-register 0 alone
module _ (regs mregs : ℕ) where
  other : (target : ℕ) → 0 < target → nat_eq 0 target ≡ false
  other target positive = ne_eqb 0 target (λ same. absurd (omega arith))

  history_behind-0 : (bank : Bank) (op : Op) (history : List (Option ℕ)) → IsOp regs mregs op → history_behind bank op 0 history ≡ history
  history_behind-0 bank (Here target) history is = refl
  history_behind-0 bank (Null target) history is = refl
  history_behind-0 bank (Copy target source) history is = refl
  history_behind-0 bank (MHere target) history is = refl
  history_behind-0 bank (MNull target) history is = refl
  history_behind-0 bank (MCopy target source) history is =
      ap (λ b. if b then bank.mregs source else history) (other target (is.0).0)

  added_by-0 : (offset : ℕ) (op : Op) → IsOp regs mregs op → added_by offset op 0 ≡ []
  added_by-0 offset (Here target) is = refl
  added_by-0 offset (Null target) is = refl
  added_by-0 offset (Copy target source) is = refl
  added_by-0 offset (MHere target) is = ap (λ b. if b then Some offset ∷ [] else []) (other target is.0)
  added_by-0 offset (MNull target) is = ap (λ b. if b then None ∷ [] else []) (other target is.0)
  added_by-0 offset (MCopy target source) is = refl

  history_copied-0 : (bank : Bank) (ops : List Op) (history : List (Option ℕ)) → AreOps regs mregs ops → history_copied bank ops 0 history ≡ history
  history_copied-0 bank [] history are = refl
  history_copied-0 bank (op ∷ ops) history are =
      history_copied-0 bank ops (history_behind bank op 0 history) are.1 ∙ history_behind-0 bank op history are.0

  history_added-0 : (offset : ℕ) (ops : List Op) → AreOps regs mregs ops → history_added offset ops 0 ≡ []
  history_added-0 offset [] are = refl
  history_added-0 offset (op ∷ ops) are = λ i. added_by-0 offset op are.0 i ++ history_added-0 offset ops are.1 i

  pub bank_after-0 : (offset : ℕ) (ops : List Op) (bank : Bank) → AreOps regs mregs ops → bank.mregs 0 ≡ [] → (bank_after offset ops bank).mregs 0 ≡ []
  bank_after-0 offset ops bank are empty =
      (λ i. history_copied-0 bank ops (bank.mregs 0) are i ++ history_added-0 offset ops are i) ∙ append-nil (bank.mregs 0) ∙ empty
