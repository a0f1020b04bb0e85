-- What the operations of one tag leave in its registers.
use Rattle.std.proofs.Common.{◌≡◌, ◌≢◌, ℕ, suc, List, [], ◌∷◌, ◌++◌, Option, Some, None, Bool, true, false, nat_eq, if◌then◌else◌, refl, ap, ap₂, ◌∙◌, sym, arith, eq-eqb, eqb-true}
use Rattle.lx_auto.specs.Bank.{Bank, bank_after, history_added, history_copied, value_after}
use Rattle.lx_auto.specs.declared.ops.Op.{Op}
use Rattle.lx_auto.specs.declared.ops.Op.TheVariants.{Copy, MCopy, MHere, MNull}
use Rattle.lx_auto.proofs.Banks.{history_added-append, history_copied-append}
use Rattle.lx_tnfa.specs.declared.states.Event.{Event}
use Rattle.lx_tnfa.specs.declared.states.Event.TheVariants.{Set, Unset}
use Rattle.lx_tdfa.specs.Registers.{copy_ops, history_copy_ops, history_mark_ops, last_mark, single_ops, tag_ops}
use Rattle.lx_tdfa.proofs.Values.RegisterWrites.{AllAvoid, AllAvoid-append}

-- what is done last to a tag at an offset gives this value, from the one before
abbrev pub marked : (offset : ℕ) → Option Bool → (before : Option ℕ) → Option ℕ
marked offset (Some true) before = Some offset
marked offset (Some false) before = None
marked offset None before = before

-- what events put at the end of a tag's history
abbrev pub marks : (offset tag : ℕ) → List Event → List (Option ℕ)
marks offset tag [] = []
marks offset tag (Set other ∷ events) = if nat_eq other tag then Some offset ∷ marks offset tag events else marks offset tag events
marks offset tag (Unset other ∷ events) = if nat_eq other tag then None ∷ marks offset tag events else marks offset tag events

-- what a register holds before: at first nothing
abbrev pub value_held : (is_first : Bool) → Bank → (reg : ℕ) → Option ℕ
value_held true bank reg = None
value_held false bank reg = bank.regs reg

-- the same of its m-register
abbrev pub history_held : (is_first : Bool) → Bank → (reg : ℕ) → List (Option ℕ)
history_held true bank reg = []
history_held false bank reg = bank.mregs (suc reg)

single_ops-value : (bank : Bank) (offset : ℕ) (first : Bool) (source target : ℕ) (mark : Option Bool)
    → value_after bank offset (single_ops first source target mark) target (bank.regs target) ≡ marked offset mark (value_held first bank source)
single_ops-value bank offset first source target (Some true) = ap (λ b. if b then Some offset else bank.regs target) (eq-eqb target target refl)
single_ops-value bank offset first source target (Some false) = ap (λ b. if b then None else bank.regs target) (eq-eqb target target refl)
single_ops-value bank offset true source target None = ap (λ b. if b then None else bank.regs target) (eq-eqb target target refl)
single_ops-value bank offset false source target None = at (nat_eq source target) refl
  where
    at : (b : Bool) → nat_eq source target ≡ b
        → value_after bank offset (if b then [] else Copy target source ∷ []) target (bank.regs target) ≡ bank.regs source
    at true same = ap bank.regs (sym (eqb-true source target same))
    at false other = ap (λ b. if b then bank.regs source else bank.regs target) (eq-eqb target target refl)

pub tag_ops-value : (bank : Bank) (offset : ℕ) (first : Bool) (source target tag : ℕ) (events : List Event)
    → (bank_after offset (tag_ops first source target tag events false) bank).regs target
    ≡ marked offset (last_mark tag events None) (value_held first bank source)
tag_ops-value bank offset first source target tag events = single_ops-value bank offset first source target (last_mark tag events None)

marks-copied : (bank : Bank) (target tag : ℕ) (events : List Event) (mreg : ℕ) (history : List (Option ℕ))
    → history_copied bank (history_mark_ops target tag events) mreg history ≡ history
marks-copied bank target tag [] mreg history = refl
marks-copied bank target tag (Set other ∷ events) mreg history = at (nat_eq other tag) (marks-copied bank target tag events mreg history)
  where
    at : (b : Bool) → history_copied bank (history_mark_ops target tag events) mreg history ≡ history
        → history_copied bank (if b then MHere (suc target) ∷ history_mark_ops target tag events else history_mark_ops target tag events) mreg history ≡ history
    at true rest = rest
    at false rest = rest
marks-copied bank target tag (Unset other ∷ events) mreg history = at (nat_eq other tag) (marks-copied bank target tag events mreg history)
  where
    at : (b : Bool) → history_copied bank (history_mark_ops target tag events) mreg history ≡ history
        → history_copied bank (if b then MNull (suc target) ∷ history_mark_ops target tag events else history_mark_ops target tag events) mreg history ≡ history
    at true rest = rest
    at false rest = rest

marks-added : (offset target tag : ℕ) (events : List Event)
    → history_added offset (history_mark_ops target tag events) (suc target) ≡ marks offset tag events
marks-added offset target tag [] = refl
marks-added offset target tag (Set other ∷ events) = at (nat_eq other tag) (marks-added offset target tag events)
  where
    at : (b : Bool) → history_added offset (history_mark_ops target tag events) (suc target) ≡ marks offset tag events
        → history_added offset (if b then MHere (suc target) ∷ history_mark_ops target tag events else history_mark_ops target tag events) (suc target)
        ≡ (if b then Some offset ∷ marks offset tag events else marks offset tag events)
    at true rest = ap₂ (λ (b : Bool) (l : List (Option ℕ)). (if b then Some offset ∷ [] else []) ++ l) (eq-eqb (suc target) (suc target) refl) rest
    at false rest = rest
marks-added offset target tag (Unset other ∷ events) = at (nat_eq other tag) (marks-added offset target tag events)
  where
    at : (b : Bool) → history_added offset (history_mark_ops target tag events) (suc target) ≡ marks offset tag events
        → history_added offset (if b then MNull (suc target) ∷ history_mark_ops target tag events else history_mark_ops target tag events) (suc target)
        ≡ (if b then None ∷ marks offset tag events else marks offset tag events)
    at true rest = ap₂ (λ (b : Bool) (l : List (Option ℕ)). (if b then None ∷ [] else []) ++ l) (eq-eqb (suc target) (suc target) refl) rest
    at false rest = rest

copy-copied : (bank : Bank) (first : Bool) (source target : ℕ) → bank.mregs 0 ≡ []
    → history_copied bank (history_copy_ops first source target) (suc target) (bank.mregs (suc target)) ≡ history_held first bank source
copy-copied bank true source target empty =
    ap (λ b. if b then bank.mregs 0 else bank.mregs (suc target)) (eq-eqb (suc target) (suc target) refl) ∙ empty
copy-copied bank false source target empty = at (nat_eq source target) refl
  where
    at : (b : Bool) → nat_eq source target ≡ b
        → history_copied bank (if b then [] else MCopy (suc target) (suc source) ∷ []) (suc target) (bank.mregs (suc target)) ≡ bank.mregs (suc source)
    at true same = ap (λ n. bank.mregs (suc n)) (sym (eqb-true source target same))
    at false other = ap (λ b. if b then bank.mregs (suc source) else bank.mregs (suc target)) (eq-eqb (suc target) (suc target) refl)

copy-added : (offset : ℕ) (first : Bool) (source target mreg : ℕ) → history_added offset (history_copy_ops first source target) mreg ≡ []
copy-added offset true source target mreg = refl
copy-added offset false source target mreg = at (nat_eq source target)
  where
    at : (b : Bool) → history_added offset (if b then [] else MCopy (suc target) (suc source) ∷ []) mreg ≡ []
    at true = refl
    at false = refl

pub tag_ops-history : (bank : Bank) (offset : ℕ) (first : Bool) (source target tag : ℕ) (events : List Event) → bank.mregs 0 ≡ []
    → (bank_after offset (tag_ops first source target tag events true) bank).mregs (suc target)
    ≡ history_held first bank source ++ marks offset tag events
tag_ops-history bank offset first source target tag events empty =
    let copy : List Op = history_copy_ops first source target in
    let more : List Op = history_mark_ops target tag events in
    let copied : history_copied bank (copy ++ more) (suc target) (bank.mregs (suc target)) ≡ history_held first bank source =
    history_copied-append bank copy more (suc target) (bank.mregs (suc target))
    ∙ marks-copied bank target tag events (suc target) (history_copied bank copy (suc target) (bank.mregs (suc target)))
    ∙ copy-copied bank first source target empty in
    let added : history_added offset (copy ++ more) (suc target) ≡ marks offset tag events =
    history_added-append offset copy more (suc target)
    ∙ ap₂ (λ (a b : List (Option ℕ)). a ++ b) (copy-added offset first source target (suc target)) (marks-added offset target tag events) in
    ap₂ (λ (a b : List (Option ℕ)). a ++ b) copied added

-- other registers are not written
module _ (reg target : ℕ) (other : reg ≢ target) where
  behind : suc reg ≢ suc target
  behind same = let e : reg ≡ target = omega arith in other e

  copy_ops-avoid : (first : Bool) (source : ℕ) → AllAvoid reg (copy_ops first source target)
  copy_ops-avoid true source = (other, tt)
  copy_ops-avoid false source = at (nat_eq source target)
    where
      at : (b : Bool) → AllAvoid reg (if b then [] else Copy target source ∷ [])
      at true = tt
      at false = (other, tt)

  single_ops-avoid : (first : Bool) (source : ℕ) (mark : Option Bool) → AllAvoid reg (single_ops first source target mark)
  single_ops-avoid first source (Some true) = (other, tt)
  single_ops-avoid first source (Some false) = (other, tt)
  single_ops-avoid first source None = copy_ops-avoid first source

  history_copy_ops-avoid : (first : Bool) (source : ℕ) → AllAvoid reg (history_copy_ops first source target)
  history_copy_ops-avoid true source = (behind, tt)
  history_copy_ops-avoid false source = at (nat_eq source target)
    where
      at : (b : Bool) → AllAvoid reg (if b then [] else MCopy (suc target) (suc source) ∷ [])
      at true = tt
      at false = (behind, tt)

  history_mark_ops-avoid : (tag : ℕ) (events : List Event) → AllAvoid reg (history_mark_ops target tag events)
  history_mark_ops-avoid tag [] = tt
  history_mark_ops-avoid tag (Set number ∷ events) = at (nat_eq number tag) (history_mark_ops-avoid tag events)
    where
      at : (b : Bool) → AllAvoid reg (history_mark_ops target tag events)
          → AllAvoid reg (if b then MHere (suc target) ∷ history_mark_ops target tag events else history_mark_ops target tag events)
      at true rest = (behind, rest)
      at false rest = rest
  history_mark_ops-avoid tag (Unset number ∷ events) = at (nat_eq number tag) (history_mark_ops-avoid tag events)
    where
      at : (b : Bool) → AllAvoid reg (history_mark_ops target tag events)
          → AllAvoid reg (if b then MNull (suc target) ∷ history_mark_ops target tag events else history_mark_ops target tag events)
      at true rest = (behind, rest)
      at false rest = rest

  pub tag_ops-avoid : (first : Bool) (source tag : ℕ) (events : List Event) (many : Bool)
      → AllAvoid reg (tag_ops first source target tag events many)
  tag_ops-avoid first source tag events false = single_ops-avoid first source (last_mark tag events None)
  tag_ops-avoid first source tag events true =
      AllAvoid-append reg (history_copy_ops first source target) (history_mark_ops target tag events)
      (history_copy_ops-avoid first source) (history_mark_ops-avoid tag events)
