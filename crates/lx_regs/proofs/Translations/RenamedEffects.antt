-- What lists do by other names, where no two registers that count have one name.
use Rattle.std.proofs.Common.{◌≡◌, ℕ, List, [], ◌∷◌, ◌++◌, Bool, true, false, refl, if◌then◌else◌, nat_eq, sym, ap, ◌∙◌, arith, eq-eqb, eqb-true, ne_eqb}
use Rattle.lx_auto.specs.declared.automaton.Held.{Held}
use Rattle.lx_auto.specs.declared.automaton.Held.TheVariants.{Reg, MReg}
use Rattle.lx_auto.specs.declared.ops.Op.{Op}
use Rattle.lx_auto.specs.declared.ops.Op.TheVariants.{Here, Null, Copy, MHere, MNull, MCopy}
use Rattle.lx_auto.specs.Effects.{Effect, here, nothing, held_by, history_of, Names, Reads, Writes, effect_after, effect_behind, effect_of, effect_of_both, effect_upon, mark_by, marks_by, origin_after, origin_behind, renamed, renamed_effect, target_of}
use Rattle.lx_auto.proofs.SameLists.{Contains-later}
use Rattle.lx_regs.specs.SharedNames.{renamed_op, renamed_ops}

-- the test of two names, where they are equal only for one
nat_eq-named : (name : ℕ → ℕ) (a b : ℕ) → (name b ≡ name a → b ≡ a) → nat_eq (name a) (name b) ≡ nat_eq a b
nat_eq-named name a b apart = at (nat_eq a b) refl
  where
    at : (c : Bool) → nat_eq a b ≡ c → nat_eq (name a) (name b) ≡ c
    at true test = eq-eqb (name a) (name b) (ap name (eqb-true a b test))
    at false test = ne_eqb (name a) (name b) (λ e. cc (sym test ∙ eq-eqb a b (sym (apart (sym e)))))

module _ (names : Names) where
  -- of what the list writes no other has the name of this one
  abbrev pub KeepsFrom : List Op → Held → Type 0
  KeepsFrom ops held = (other : Held) → Writes ops other → renamed names other ≡ renamed names held → other ≡ held

  -- the same of one operation
  abbrev pub KeepsFromOne : Op → Held → Type 0
  KeepsFromOne op held = renamed names (target_of op) ≡ renamed names held → target_of op ≡ held

  pub KeepsFrom-first : (op : Op) (ops : List Op) (held : Held) → KeepsFrom (op ∷ ops) held → KeepsFromOne op held
  KeepsFrom-first op ops held keeps same = keeps (target_of op) (op, (0, omega arith, refl), refl) same

  pub KeepsFrom-later : (op : Op) (ops : List Op) (held : Held) → KeepsFrom (op ∷ ops) held → KeepsFrom ops held
  KeepsFrom-later op ops held keeps other (writer, has, writes) same = keeps other (writer, Contains-later op ops writer has, writes) same

  pub target_of-renamed : (op : Op) → target_of (renamed_op names op) ≡ renamed names (target_of op)
  target_of-renamed (Here target) = refl
  target_of-renamed (Null target) = refl
  target_of-renamed (Copy target source) = refl
  target_of-renamed (MHere target) = refl
  target_of-renamed (MNull target) = refl
  target_of-renamed (MCopy target source) = refl

  pub reg_test : (reg target : ℕ) → (Reg (names.regs target) ≡ Reg (names.regs reg) → Reg target ≡ Reg reg)
      → nat_eq (names.regs reg) (names.regs target) ≡ nat_eq reg target
  reg_test reg target apart = nat_eq-named names.regs reg target (λ same. inner (apart (ap Reg same)))
    where
      inner : Reg target ≡ Reg reg → target ≡ reg
      inner same = cc same

  pub mreg_test : (mreg target : ℕ) → (MReg (names.mregs target) ≡ MReg (names.mregs mreg) → MReg target ≡ MReg mreg)
      → nat_eq (names.mregs mreg) (names.mregs target) ≡ nat_eq mreg target
  mreg_test mreg target apart = nat_eq-named names.mregs mreg target (λ same. inner (apart (ap MReg same)))
    where
      inner : MReg target ≡ MReg mreg → target ≡ mreg
      inner same = cc same

  either : (b : Bool) (effect other : Effect)
      → (if b then renamed_effect names effect else renamed_effect names other) ≡ renamed_effect names (if b then effect else other)
  either true effect other = refl
  either false effect other = refl

  effect_behind-renamed : (op : Op) (reg : ℕ) (effect : Effect) → KeepsFromOne op (Reg reg)
      → effect_behind (renamed_op names op) (names.regs reg) (renamed_effect names effect) ≡ renamed_effect names (effect_behind op reg effect)
  effect_behind-renamed (Here target) reg effect apart =
      ap (λ b. if b then here else renamed_effect names effect) (reg_test reg target apart) ∙ either (nat_eq reg target) here effect
  effect_behind-renamed (Null target) reg effect apart =
      ap (λ b. if b then nothing else renamed_effect names effect) (reg_test reg target apart) ∙ either (nat_eq reg target) nothing effect
  effect_behind-renamed (Copy target source) reg effect apart =
      ap (λ b. if b then held_by (names.regs source) else renamed_effect names effect) (reg_test reg target apart)
      ∙ either (nat_eq reg target) (held_by source) effect
  effect_behind-renamed (MHere target) reg effect apart = refl
  effect_behind-renamed (MNull target) reg effect apart = refl
  effect_behind-renamed (MCopy target source) reg effect apart = refl

  effect_after-renamed : (ops : List Op) (reg : ℕ) (effect : Effect) → KeepsFrom ops (Reg reg)
      → effect_after (renamed_ops names ops) (names.regs reg) (renamed_effect names effect) ≡ renamed_effect names (effect_after ops reg effect)
  effect_after-renamed [] reg effect keeps = refl
  effect_after-renamed (op ∷ ops) reg effect keeps =
      ap (effect_after (renamed_ops names ops) (names.regs reg)) (effect_behind-renamed op reg effect (KeepsFrom-first op ops (Reg reg) keeps))
      ∙ effect_after-renamed ops reg (effect_behind op reg effect) (KeepsFrom-later op ops (Reg reg) keeps)

  origin_behind-renamed : (op : Op) (mreg origin : ℕ) → KeepsFromOne op (MReg mreg)
      → origin_behind (renamed_op names op) (names.mregs mreg) (names.mregs origin) ≡ names.mregs (origin_behind op mreg origin)
  origin_behind-renamed (Here target) mreg origin apart = refl
  origin_behind-renamed (Null target) mreg origin apart = refl
  origin_behind-renamed (Copy target source) mreg origin apart = refl
  origin_behind-renamed (MHere target) mreg origin apart = refl
  origin_behind-renamed (MNull target) mreg origin apart = refl
  origin_behind-renamed (MCopy target source) mreg origin apart =
      ap (λ b. if b then names.mregs source else names.mregs origin) (mreg_test mreg target apart) ∙ at (nat_eq mreg target)
    where
      at : (b : Bool) → (if b then names.mregs source else names.mregs origin) ≡ names.mregs (if b then source else origin)
      at true = refl
      at false = refl

  origin_after-renamed : (ops : List Op) (mreg origin : ℕ) → KeepsFrom ops (MReg mreg)
      → origin_after (renamed_ops names ops) (names.mregs mreg) (names.mregs origin) ≡ names.mregs (origin_after ops mreg origin)
  origin_after-renamed [] mreg origin keeps = refl
  origin_after-renamed (op ∷ ops) mreg origin keeps =
      ap (origin_after (renamed_ops names ops) (names.mregs mreg))
      (origin_behind-renamed op mreg origin (KeepsFrom-first op ops (MReg mreg) keeps))
      ∙ origin_after-renamed ops mreg (origin_behind op mreg origin) (KeepsFrom-later op ops (MReg mreg) keeps)

  mark_by-renamed : (op : Op) (mreg : ℕ) → KeepsFromOne op (MReg mreg) → mark_by (renamed_op names op) (names.mregs mreg) ≡ mark_by op mreg
  mark_by-renamed (Here target) mreg apart = refl
  mark_by-renamed (Null target) mreg apart = refl
  mark_by-renamed (Copy target source) mreg apart = refl
  mark_by-renamed (MHere target) mreg apart = ap (λ b. if b then true ∷ [] else []) (mreg_test mreg target apart)
  mark_by-renamed (MNull target) mreg apart = ap (λ b. if b then false ∷ [] else []) (mreg_test mreg target apart)
  mark_by-renamed (MCopy target source) mreg apart = refl

  marks_by-renamed : (ops : List Op) (mreg : ℕ) → KeepsFrom ops (MReg mreg)
      → marks_by (renamed_ops names ops) (names.mregs mreg) ≡ marks_by ops mreg
  marks_by-renamed [] mreg keeps = refl
  marks_by-renamed (op ∷ ops) mreg keeps = λ i.
      mark_by-renamed op mreg (KeepsFrom-first op ops (MReg mreg) keeps) i
      ++ marks_by-renamed ops mreg (KeepsFrom-later op ops (MReg mreg) keeps) i

  pub effect_of-renamed : (ops : List Op) (held : Held) → KeepsFrom ops held
      → effect_of (renamed_ops names ops) (renamed names held) ≡ renamed_effect names (effect_of ops held)
  effect_of-renamed ops (Reg reg) keeps = effect_after-renamed ops reg (held_by reg) keeps
  effect_of-renamed ops (MReg mreg) keeps = λ i. history_of (origin_after-renamed ops mreg mreg keeps i) (marks_by-renamed ops mreg keeps i)

  -- upon a first list, which keeps from what the effect reads
  effect_upon-renamed : (first : List Op) (effect : Effect) → ((held : Held) → Reads effect held → KeepsFrom first held)
      → effect_upon (renamed_ops names first) (renamed_effect names effect) ≡ renamed_effect names (effect_upon first effect)
  effect_upon-renamed first here keeps = refl
  effect_upon-renamed first nothing keeps = refl
  effect_upon-renamed first (held_by reg) keeps = effect_of-renamed first (Reg reg) (keeps (Reg reg) refl)
  effect_upon-renamed first (history_of mreg marks) keeps =
      let apart = keeps (MReg mreg) refl in
      λ i. history_of (origin_after-renamed first mreg mreg apart i) (marks_by-renamed first mreg apart i ++ marks)

  pub effect_of_both-renamed : (first second : List Op) (held : Held) → KeepsFrom second held
      → ((before : Held) → Reads (effect_of second held) before → KeepsFrom first before)
      → effect_of_both (renamed_ops names first) (renamed_ops names second) (renamed names held)
      ≡ renamed_effect names (effect_of_both first second held)
  effect_of_both-renamed first second held keeps keeps_first =
      ap (effect_upon (renamed_ops names first)) (effect_of-renamed second held keeps)
      ∙ effect_upon-renamed first (effect_of second held) keeps_first
