-- What lists leave in registers is what their effects give, also under other names.
use Rattle.std.proofs.Common.{◌≡◌, ℕ, List, [], ◌∷◌, ◌++◌, Option, Some, None, Bool, true, false, refl, if◌then◌else◌, nat_eq, sym, ap, ◌∙◌, subst, append-nil, append_assoc}
use Rattle.std.proofs.lemmas.List.{map-append}
use Rattle.lx_auto.specs.declared.automaton.Held.{Held}
use Rattle.lx_auto.specs.declared.automaton.Held.TheVariants.{Reg, MReg}
use Rattle.lx_auto.specs.declared.ops.Op.{Op}
use Rattle.lx_auto.specs.declared.ops.Op.TheVariants.{Here, Null, Copy, MHere, MNull, MCopy}
use Rattle.lx_auto.specs.Bank.{Bank, added_by, bank_after, history, history_added, history_behind, history_copied, read, single, value_after, value_behind}
use Rattle.lx_auto.specs.Effects.{Effect, here, nothing, held_by, history_of, Names, Reads, composed, effect_after, effect_behind, effect_of, effect_of_both, effect_upon, mark_by, marked, marks_by, origin_after, origin_behind, renamed, renamed_effect, same_names, value_of}

module _ (offset : ℕ) (bank : Bank) where
  either : (b : Bool) (value other : Option ℕ) (effect upon : Effect) → single value ≡ value_of offset bank effect
      → single other ≡ value_of offset bank upon → single (if b then value else other) ≡ value_of offset bank (if b then effect else upon)
  either true value other effect upon same rest = same
  either false value other effect upon same rest = rest

  value_behind-effect : (op : Op) (reg : ℕ) (value : Option ℕ) (effect : Effect) → single value ≡ value_of offset bank effect
      → single (value_behind bank offset op reg value) ≡ value_of offset bank (effect_behind op reg effect)
  value_behind-effect (Here target) reg value effect same = either (nat_eq reg target) (Some offset) value here effect refl same
  value_behind-effect (Null target) reg value effect same = either (nat_eq reg target) None value nothing effect refl same
  value_behind-effect (Copy target source) reg value effect same =
      either (nat_eq reg target) (bank.regs source) value (held_by source) effect refl same
  value_behind-effect (MHere target) reg value effect same = same
  value_behind-effect (MNull target) reg value effect same = same
  value_behind-effect (MCopy target source) reg value effect same = same

  value_after-effect : (ops : List Op) (reg : ℕ) (value : Option ℕ) (effect : Effect) → single value ≡ value_of offset bank effect
      → single (value_after bank offset ops reg value) ≡ value_of offset bank (effect_after ops reg effect)
  value_after-effect [] reg value effect same = same
  value_after-effect (op ∷ ops) reg value effect same =
      value_after-effect ops reg (value_behind bank offset op reg value) (effect_behind op reg effect) (value_behind-effect op reg value effect same)

  history_behind-origin : (op : Op) (mreg origin : ℕ)
      → history_behind bank op mreg (bank.mregs origin) ≡ bank.mregs (origin_behind op mreg origin)
  history_behind-origin (Here target) mreg origin = refl
  history_behind-origin (Null target) mreg origin = refl
  history_behind-origin (Copy target source) mreg origin = refl
  history_behind-origin (MHere target) mreg origin = refl
  history_behind-origin (MNull target) mreg origin = refl
  history_behind-origin (MCopy target source) mreg origin = at (nat_eq mreg target)
    where
      at : (b : Bool) → (if b then bank.mregs source else bank.mregs origin) ≡ bank.mregs (if b then source else origin)
      at true = refl
      at false = refl

  history_copied-origin : (ops : List Op) (mreg origin : ℕ)
      → history_copied bank ops mreg (bank.mregs origin) ≡ bank.mregs (origin_after ops mreg origin)
  history_copied-origin [] mreg origin = refl
  history_copied-origin (op ∷ ops) mreg origin =
      ap (history_copied bank ops mreg) (history_behind-origin op mreg origin) ∙ history_copied-origin ops mreg (origin_behind op mreg origin)

  added_by-mark : (op : Op) (mreg : ℕ) → added_by offset op mreg ≡ marked offset (mark_by op mreg)
  added_by-mark (Here target) mreg = refl
  added_by-mark (Null target) mreg = refl
  added_by-mark (Copy target source) mreg = refl
  added_by-mark (MHere target) mreg = at (nat_eq mreg target)
    where
      at : (b : Bool) → (if b then Some offset ∷ [] else []) ≡ marked offset (if b then true ∷ [] else [])
      at true = refl
      at false = refl
  added_by-mark (MNull target) mreg = at (nat_eq mreg target)
    where
      at : (b : Bool) → (if b then None ∷ [] else []) ≡ marked offset (if b then false ∷ [] else [])
      at true = refl
      at false = refl
  added_by-mark (MCopy target source) mreg = refl

  marked-append : (front back : List Bool) → marked offset (front ++ back) ≡ marked offset front ++ marked offset back
  marked-append front back = map-append (λ mark. if mark then Some offset else None) front back

  history_added-marks : (ops : List Op) (mreg : ℕ) → history_added offset ops mreg ≡ marked offset (marks_by ops mreg)
  history_added-marks [] mreg = refl
  history_added-marks (op ∷ ops) mreg =
      (λ i. added_by-mark op mreg i ++ history_added-marks ops mreg i) ∙ sym (marked-append (mark_by op mreg) (marks_by ops mreg))

  mregs-origin : (ops : List Op) (mreg : ℕ)
      → (bank_after offset ops bank).mregs mreg ≡ bank.mregs (origin_after ops mreg mreg) ++ marked offset (marks_by ops mreg)
  mregs-origin ops mreg = λ i. history_copied-origin ops mreg mreg i ++ history_added-marks ops mreg i

  -- of one list
  pub read-bank_after : (ops : List Op) (held : Held) → read (bank_after offset ops bank) held ≡ value_of offset bank (effect_of ops held)
  read-bank_after ops (Reg reg) = value_after-effect ops reg (bank.regs reg) (held_by reg) refl
  read-bank_after ops (MReg mreg) = ap history (mregs-origin ops mreg)

  -- an effect upon what a list left
  value_of-upon : (first : List Op) (effect : Effect)
      → value_of offset (bank_after offset first bank) effect ≡ value_of offset bank (effect_upon first effect)
  value_of-upon first here = refl
  value_of-upon first nothing = refl
  value_of-upon first (held_by reg) = read-bank_after first (Reg reg)
  value_of-upon first (history_of mreg marks) =
      let origin = bank.mregs (origin_after first mreg mreg) in
      let front = marks_by first mreg in
      ap history
      (ap (λ held. held ++ marked offset marks) (mregs-origin first mreg)
      ∙ append_assoc origin (marked offset front) (marked offset marks)
      ∙ ap (λ added. origin ++ added) (sym (marked-append front marks)))

-- of two lists, one behind the other
pub read-bank_after_both : (offset : ℕ) (first second : List Op) (bank : Bank) (held : Held)
    → read (bank_after offset second (bank_after offset first bank)) held ≡ value_of offset bank (effect_of_both first second held)
read-bank_after_both offset first second bank held =
    read-bank_after offset (bank_after offset first bank) second held ∙ value_of-upon offset bank first (effect_of second held)

-- an effect gives the same by other names, if what it reads is held by its other name
pub value_of-renamed : (offset : ℕ) (names : Names) (bank source : Bank) (effect : Effect)
    → ((held : Held) → Reads effect held → read bank (renamed names held) ≡ read source held)
    → value_of offset bank (renamed_effect names effect) ≡ value_of offset source effect
value_of-renamed offset names bank source here agree = refl
value_of-renamed offset names bank source nothing agree = refl
value_of-renamed offset names bank source (held_by reg) agree = agree (Reg reg) refl
value_of-renamed offset names bank source (history_of mreg marks) agree =
    let same : bank.mregs (names.mregs mreg) ≡ source.mregs mreg = inner (agree (MReg mreg) refl) in
    ap (λ held. history (held ++ marked offset marks)) same
  where
    inner : history (bank.mregs (names.mregs mreg)) ≡ history (source.mregs mreg) → bank.mregs (names.mregs mreg) ≡ source.mregs mreg
    inner same = cc same

-- ---- one list alone, and names that stay

pub effect_upon-none : (effect : Effect) → effect_upon [] effect ≡ effect
effect_upon-none here = refl
effect_upon-none nothing = refl
effect_upon-none (held_by reg) = refl
effect_upon-none (history_of mreg marks) = refl

-- the second list alone
pub effect_of_both-none_first : (ops : List Op) (held : Held) → effect_of_both [] ops held ≡ effect_of ops held
effect_of_both-none_first ops held = effect_upon-none (effect_of ops held)

-- the first list alone
pub effect_of_both-none_second : (ops : List Op) (held : Held) → effect_of_both ops [] held ≡ effect_of ops held
effect_of_both-none_second ops (Reg reg) = refl
effect_of_both-none_second ops (MReg mreg) = ap (history_of (origin_after ops mreg mreg)) (append-nil (marks_by ops mreg))

-- what the second list reads, the first one reads from elsewhere
pub effect_of_both-reads : (first second : List Op) (next middle held : Held) → Reads (effect_of second next) middle
    → Reads (effect_of first middle) held → Reads (effect_of_both first second next) held
effect_of_both-reads first second next middle held reads before = at (effect_of second next) reads
  where
    at : (effect : Effect) → Reads effect middle → Reads (effect_upon first effect) held
    at here reads = absurd reads
    at nothing reads = absurd reads
    at (held_by reg) reads = subst (λ place. Reads (effect_of first place) held) (sym reads) before
    at (history_of mreg marks) reads = subst (λ place. Reads (effect_of first place) held) (sym reads) before

pub effect_of_both-reads_back : (first second : List Op) (next held : Held) → Reads (effect_of_both first second next) held
    → (middle : Held) × Reads (effect_of second next) middle × Reads (effect_of first middle) held
effect_of_both-reads_back first second next held reads = at (effect_of second next) reads
  where
    at : (effect : Effect) → Reads (effect_upon first effect) held → (middle : Held) × Reads effect middle × Reads (effect_of first middle) held
    at here reads = absurd reads
    at nothing reads = absurd reads
    at (held_by reg) reads = (Reg reg, refl, reads)
    at (history_of mreg marks) reads = (MReg mreg, refl, reads)

pub renamed-same : (held : Held) → renamed same_names held ≡ held
renamed-same (Reg reg) = refl
renamed-same (MReg mreg) = refl

pub renamed_effect-same : (effect : Effect) → renamed_effect same_names effect ≡ effect
renamed_effect-same here = refl
renamed_effect-same nothing = refl
renamed_effect-same (held_by reg) = refl
renamed_effect-same (history_of mreg marks) = refl

pub renamed-composed : (first second : Names) (held : Held) → renamed (composed first second) held ≡ renamed second (renamed first held)
renamed-composed first second (Reg reg) = refl
renamed-composed first second (MReg mreg) = refl

pub renamed_effect-composed : (first second : Names) (effect : Effect)
    → renamed_effect (composed first second) effect ≡ renamed_effect second (renamed_effect first effect)
renamed_effect-composed first second here = refl
renamed_effect-composed first second nothing = refl
renamed_effect-composed first second (held_by reg) = refl
renamed_effect-composed first second (history_of mreg marks) = refl

-- a renamed effect reads what the effect reads, by its other name
pub Reads-renamed : (names : Names) (effect : Effect) (held : Held) → Reads effect held → Reads (renamed_effect names effect) (renamed names held)
Reads-renamed names here held reads = reads
Reads-renamed names nothing held reads = reads
Reads-renamed names (held_by reg) held reads = ap (renamed names) reads
Reads-renamed names (history_of mreg marks) held reads = ap (renamed names) reads

pub Reads-renamed_back : (names : Names) (effect : Effect) (held : Held) → Reads (renamed_effect names effect) held
    → (source : Held) × Reads effect source × (renamed names source ≡ held)
Reads-renamed_back names here held reads = absurd reads
Reads-renamed_back names nothing held reads = absurd reads
Reads-renamed_back names (held_by reg) held reads = (Reg reg, refl, reads)
Reads-renamed_back names (history_of mreg marks) held reads = (MReg mreg, refl, reads)
