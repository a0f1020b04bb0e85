-- One operation more of a list of which those go that empty a register which holds nothing.
use Rattle.std.proofs.Common.{◌≡◌, ◌⊎◌, inl, inr, ℕ, List, [], ◌∷◌, ◌++◌, Option, Some, None, Bool, true, false, refl, if◌then◌else◌, nat_eq, append-nil, sym, ap, ◌∙◌, subst}
use Rattle.std.proofs.lemmas.Bool.{eqb-true}
use Rattle.lx_auto.specs.declared.ops.Op.{Op}
use Rattle.lx_auto.specs.declared.ops.Op.TheVariants.{Here, Null, Copy, MHere, MNull, MCopy}
use Rattle.lx_auto.specs.Automaton.{AreOps, IsOp}
use Rattle.lx_auto.specs.Bank.{Bank, added_by, bank_after, history_added, history_behind, history_copied, value_after, value_behind}
use Rattle.lx_auto.proofs.Banks.{history_added-append, history_copied-append, value_after-append}
use Rattle.lx_regs.specs.Unset.{AreUnset, IsKept, IsWithin, WritesRegister, empties, is_unset}

-- ---- operations on registers that are there

module _ (regs mregs : ℕ) where
  AreOps-front : (front back : List Op) → AreOps regs mregs (front ++ back) → AreOps regs mregs front
  AreOps-front [] back are = tt
  AreOps-front (op ∷ front) back are = (are.0, AreOps-front front back are.1)

  IsOp-last : (front : List Op) (op : Op) → AreOps regs mregs (front ++ op ∷ []) → IsOp regs mregs op
  IsOp-last [] op are = are.0
  IsOp-last (first ∷ front) op are = IsOp-last front op are.1

  AreOps-more : (front : List Op) (op : Op) → AreOps regs mregs front → IsOp regs mregs op → AreOps regs mregs (front ++ op ∷ [])
  AreOps-more [] op are is = (is, tt)
  AreOps-more (first ∷ front) op are is = (are.0, AreOps-more front op are.1 is)

-- ---- what an operation leaves

chosen : (here empty other : Bool) (new value : Option ℕ) → (if here then empty else other) ≡ true → (empty ≡ true → new ≡ None)
    → (other ≡ true → value ≡ None) → (if here then new else value) ≡ None
chosen true empty other new value is first second = first is
chosen false empty other new value is first second = second is

not_chosen : (here : Bool) (new value : Option ℕ) → (here ≡ true → new ≡ value) → (if here then new else value) ≡ value
not_chosen true new value same = same refl
not_chosen false new value same = refl

module _ (before : List Bool) (bank : Bank) (offset : ℕ) (are : AreUnset before bank) (reg target : ℕ) where
  -- what is known to hold nothing behind an operation
  written-none : (op : Op) → WritesRegister op target → (other : Bool) (value : Option ℕ)
      → (if nat_eq reg target then empties before op else other) ≡ true → (other ≡ true → value ≡ None)
      → value_behind bank offset op reg value ≡ None
  written-none op (inl is) other value empty old =
      subst (λ o. (if nat_eq reg target then empties before o else other) ≡ true → value_behind bank offset o reg value ≡ None) (sym is)
      (λ one. chosen (nat_eq reg target) false other (Some offset) value one (λ no. cc no) old) empty
  written-none op (inr (inl is)) other value empty old =
      subst (λ o. (if nat_eq reg target then empties before o else other) ≡ true → value_behind bank offset o reg value ≡ None) (sym is)
      (λ one. chosen (nat_eq reg target) true other None value one (λ yes. refl) old) empty
  written-none op (inr (inr (source, is))) other value empty old =
      subst (λ o. (if nat_eq reg target then empties before o else other) ≡ true → value_behind bank offset o reg value ≡ None) (sym is)
      (λ one. chosen (nat_eq reg target) (is_unset before source) other (bank.regs source) value one (λ yes. are source yes) old) empty

  -- an operation that empties what is empty alters nothing
  emptied-same : (op : Op) → WritesRegister op target → empties before op ≡ true → (value : Option ℕ) → (reg ≡ target → value ≡ None)
      → value_behind bank offset op reg value ≡ value
  emptied-same op (inl is) empty value none =
      let no : false ≡ true = subst (λ o. empties before o ≡ true) is empty in absurd (cc no)
  emptied-same op (inr (inl is)) empty value none =
      subst (λ o. value_behind bank offset o reg value ≡ value) (sym is)
      (not_chosen (nat_eq reg target) None value (λ here. sym (none (eqb-true reg target here))))
  emptied-same op (inr (inr (source, is))) empty value none =
      let unset : is_unset before source ≡ true = subst (λ o. empties before o ≡ true) is empty in
      subst (λ o. value_behind bank offset o reg value ≡ value) (sym is)
      (not_chosen (nat_eq reg target) (bank.regs source) value (λ here. are source unset ∙ sym (none (eqb-true reg target here))))

-- an operation that writes a register leaves histories alone
history_behind-register : (bank : Bank) (op : Op) (target : ℕ) → WritesRegister op target → (mreg : ℕ) (history : List (Option ℕ))
    → history_behind bank op mreg history ≡ history
history_behind-register bank op target (inl is) mreg history =
    subst (λ o. history_behind bank o mreg history ≡ history) (sym is) refl
history_behind-register bank op target (inr (inl is)) mreg history =
    subst (λ o. history_behind bank o mreg history ≡ history) (sym is) refl
history_behind-register bank op target (inr (inr (source, is))) mreg history =
    subst (λ o. history_behind bank o mreg history ≡ history) (sym is) refl

added_by-register : (offset : ℕ) (op : Op) (target : ℕ) → WritesRegister op target → (mreg : ℕ) → added_by offset op mreg ≡ []
added_by-register offset op target (inl is) mreg = subst (λ o. added_by offset o mreg ≡ []) (sym is) refl
added_by-register offset op target (inr (inl is)) mreg = subst (λ o. added_by offset o mreg ≡ []) (sym is) refl
added_by-register offset op target (inr (inr (source, is))) mreg = subst (λ o. added_by offset o mreg ≡ []) (sym is) refl

-- ---- lists

pub IsKept-none : (before : List Bool) → IsKept before before [] []
IsKept-none before = record {
  values = λ bank offset are reg. refl;
  unset = λ bank offset are reg is. are reg is;
  copied = λ bank mreg history. refl;
  added = λ offset mreg. refl;
  within = λ regs mregs are. are;
}

module _ (before behind : List Bool) (ops kept : List Op) (is : IsKept before behind ops kept) where
  -- fewer registers are said to hold nothing behind the lists
  pub IsKept-weaker : (row : List Bool) → IsWithin row behind → IsKept before row ops kept
  IsKept-weaker row within = record {
    values = is.values;
    unset = λ bank offset are reg yes. is.unset bank offset are reg (within reg yes);
    copied = is.copied;
    added = is.added;
    within = is.within;
  }

  -- the registers behind both lists are the same
  pub bank_after-kept : (offset : ℕ) (bank : Bank) → AreUnset before bank → bank_after offset kept bank ≡ bank_after offset ops bank
  bank_after-kept offset bank are = λ i. record {
    regs = λ reg. is.values bank offset are reg i;
    mregs = λ mreg. is.copied bank mreg (bank.mregs mreg) i ++ is.added offset mreg i;
  }

  pub AreUnset-behind : (offset : ℕ) (bank : Bank) → AreUnset before bank → AreUnset behind (bank_after offset ops bank)
  AreUnset-behind offset bank are = λ reg yes. is.unset bank offset are reg yes

  module _ (op : Op) where
    IsKept-stays : (after : List Bool) → ((bank : Bank) (offset : ℕ) → AreUnset before bank → (reg : ℕ) → is_unset after reg ≡ true
        → value_behind bank offset op reg (value_after bank offset ops reg (bank.regs reg)) ≡ None)
        → IsKept before after (ops ++ op ∷ []) (kept ++ op ∷ [])
    IsKept-stays after none = record {
      values = λ bank offset are reg.
          value_after-append bank offset kept (op ∷ []) reg (bank.regs reg)
          ∙ ap (value_behind bank offset op reg) (is.values bank offset are reg)
          ∙ sym (value_after-append bank offset ops (op ∷ []) reg (bank.regs reg));
      unset = λ bank offset are reg yes.
          value_after-append bank offset ops (op ∷ []) reg (bank.regs reg) ∙ none bank offset are reg yes;
      copied = λ bank mreg history.
          history_copied-append bank kept (op ∷ []) mreg history
          ∙ ap (history_behind bank op mreg) (is.copied bank mreg history)
          ∙ sym (history_copied-append bank ops (op ∷ []) mreg history);
      added = λ offset mreg.
          history_added-append offset kept (op ∷ []) mreg
          ∙ ap (λ history. history ++ history_added offset (op ∷ []) mreg) (is.added offset mreg)
          ∙ sym (history_added-append offset ops (op ∷ []) mreg);
      within = λ regs mregs are.
          AreOps-more regs mregs kept op (is.within regs mregs (AreOps-front regs mregs ops (op ∷ []) are)) (IsOp-last regs mregs ops op are);
    }

    -- an operation that writes a history stays
    pub IsKept-history : ((bank : Bank) (offset reg : ℕ) (value : Option ℕ) → value_behind bank offset op reg value ≡ value)
        → IsKept before behind (ops ++ op ∷ []) (kept ++ op ∷ [])
    IsKept-history same =
        IsKept-stays behind (λ bank offset are reg yes.
        same bank offset reg (value_after bank offset ops reg (bank.regs reg)) ∙ is.unset bank offset are reg yes)

    -- one that writes a register stays
    pub IsKept-written : (target : ℕ) → WritesRegister op target → (after : List Bool)
        → ((reg : ℕ) → is_unset after reg ≡ true → (if nat_eq reg target then empties before op else is_unset behind reg) ≡ true)
        → IsKept before after (ops ++ op ∷ []) (kept ++ op ∷ [])
    IsKept-written target writes after noted =
        IsKept-stays after (λ bank offset are reg yes.
        written-none before bank offset are reg target op writes (is_unset behind reg)
        (value_after bank offset ops reg (bank.regs reg)) (noted reg yes) (λ old. is.unset bank offset are reg old))

    -- one that empties what is empty goes
    pub IsKept-goes : (target : ℕ) → WritesRegister op target → empties before op ≡ true → is_unset behind target ≡ true
        → IsKept before behind (ops ++ op ∷ []) kept
    IsKept-goes target writes empty old = record {
      values = λ bank offset are reg. is.values bank offset are reg ∙ sym (same bank offset are reg);
      unset = λ bank offset are reg yes. same bank offset are reg ∙ is.unset bank offset are reg yes;
      copied = λ bank mreg history.
          is.copied bank mreg history
          ∙ sym (history_behind-register bank op target writes mreg (history_copied bank ops mreg history))
          ∙ sym (history_copied-append bank ops (op ∷ []) mreg history);
      added = λ offset mreg.
          is.added offset mreg
          ∙ sym (append-nil (history_added offset ops mreg))
          ∙ ap (λ history. history_added offset ops mreg ++ (history ++ [])) (sym (added_by-register offset op target writes mreg))
          ∙ sym (history_added-append offset ops (op ∷ []) mreg);
      within = λ regs mregs are. is.within regs mregs (AreOps-front regs mregs ops (op ∷ []) are);
    }
      where
        same : (bank : Bank) (offset : ℕ) → AreUnset before bank → (reg : ℕ)
            → value_after bank offset (ops ++ op ∷ []) reg (bank.regs reg) ≡ value_after bank offset ops reg (bank.regs reg)
        same bank offset are reg =
            value_after-append bank offset ops (op ∷ []) reg (bank.regs reg)
            ∙ emptied-same before bank offset are reg target op writes empty (value_after bank offset ops reg (bank.regs reg))
            (λ here. subst (λ r. value_after bank offset ops r (bank.regs r) ≡ None) (sym here) (is.unset bank offset are target old))
