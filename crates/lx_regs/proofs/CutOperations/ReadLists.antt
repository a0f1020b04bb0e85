-- What a list reads for what is wanted behind it.
use Rattle.std.proofs.Common.{◌≡◌, ◌⊎◌, inl, inr, ℕ, zero, suc, List, [], ◌∷◌, Bool, true, false, refl, not, ◌||◌, ◌&&◌, nat_eq, if◌then◌else◌, Contains, sym, ap, ◌∙◌, subst, eqb-true, arith}
use Rattle.std.specs.List.{list_any}
use Rattle.std.proofs.lemmas.Bool.{eq-eqb}
use Rattle.lx_auto.specs.declared.automaton.Held.{Held}
use Rattle.lx_auto.specs.declared.automaton.Held.TheVariants.{Reg, MReg}
use Rattle.lx_auto.specs.declared.ops.Op.{Op}
use Rattle.lx_auto.specs.declared.ops.Op.TheVariants.{Here, Null, Copy, MHere, MNull, MCopy}
use Rattle.lx_auto.specs.Effects.{Effect, here, nothing, held_by, Reads, copies_into, copies_itself, effect_after, effect_behind, effect_of, is_overwritten, origin_after, origin_behind, sets, target_of}
use Rattle.lx_regs.specs.Dead.{KeepsWanted, ends, stays, goes}
use Rattle.lx_regs.specs.HeldSets.{is_same}
use Rattle.lx_regs.specs.KeptLists.{IsListed, copies_from, is_read, overwrites}
use Rattle.lx_regs.proofs.CutOperations.KeptOps.{effect_after-set, is_overwritten-kept, origin_after-copied}
use Rattle.lx_regs.proofs.CutOperations.UnsetRegisters.{effect_after-unset, none-first, origin_after-uncopied}

-- ---- tests

or-second : (first second : Bool) → second ≡ true → (first || second) ≡ true
or-second true second is = refl
or-second false second is = is

or-first : (first second : Bool) → first ≡ true → (first || second) ≡ true
or-first true second is = refl
or-first false second is = absurd (cc is)

or-cases : (first second : Bool) → (first || second) ≡ true → (first ≡ true) ⊎ (second ≡ true)
or-cases true second is = inl refl
or-cases false second is = inr is

and-first : (first second : Bool) → (first && second) ≡ true → first ≡ true
and-first true second is = refl
and-first false second is = is

and-second : (first second : Bool) → (first && not second) ≡ true → second ≡ false
and-second first false is = refl
and-second true true is = absurd (cc is)
and-second false true is = absurd (cc is)

pub is_same-true : (held other : Held) → is_same held other ≡ true → held ≡ other
is_same-true (Reg reg) (Reg other) is = ap Reg (eqb-true reg other is)
is_same-true (MReg mreg) (MReg other) is = ap MReg (eqb-true mreg other is)
is_same-true (Reg reg) (MReg other) is = absurd (cc is)
is_same-true (MReg mreg) (Reg other) is = absurd (cc is)

pub is_same-refl : (held : Held) → is_same held held ≡ true
is_same-refl (Reg reg) = eq-eqb reg reg refl
is_same-refl (MReg mreg) = eq-eqb mreg mreg refl

-- a list by its test, and the test by the list
pub listed-Contains : (items : List Held) (held : Held) → IsListed items held → Contains items held
listed-Contains [] held is = absurd (cc is)
listed-Contains (first ∷ items) held is =
    at (or-cases (is_same held first) (list_any (is_same held) items) is) (listed-Contains items held)
  where
    at : (is_same held first ≡ true) ⊎ (list_any (is_same held) items ≡ true) → (list_any (is_same held) items ≡ true → Contains items held)
        → Contains (first ∷ items) held
    at (inl same) rest = (0, omega arith, sym (is_same-true held first same))
    at (inr later) rest = let found = rest later in (suc found.0, omega arith, found.2)

pub Contains-listed : (items : List Held) (held : Held) → Contains items held → IsListed items held
Contains-listed [] held (place, within, is) = absurd (omega arith)
Contains-listed (first ∷ items) held (zero, within, is) =
    or-first (is_same held first) (list_any (is_same held) items) (subst (λ other. is_same held other ≡ true) (sym is) (is_same-refl held))
Contains-listed (first ∷ items) held (suc place, within, is) =
    or-second (is_same held first) (list_any (is_same held) items) (Contains-listed items held (place, omega arith, is))

-- ---- what no operation overwrites stays as it is

Reads-unwritten : (ops : List Op) (held : Held) → list_any (overwrites held) ops ≡ false → Reads (effect_of ops held) held
Reads-unwritten ops (Reg reg) none = subst (λ effect. Reads effect (Reg reg)) (sym (effect_after-unset ops reg (held_by reg) none)) refl
Reads-unwritten ops (MReg mreg) none = ap MReg (origin_after-uncopied ops mreg mreg none)

-- ---- where what is read comes from

module _ (held : Held) where
  copies_from-reg : (target source : ℕ) → Reg source ≡ held → copies_from held (Copy target source) ≡ true
  copies_from-reg target source same = subst (λ h. copies_from h (Copy target source) ≡ true) same (eq-eqb source source refl)

  copies_from-mreg : (target source : ℕ) → MReg source ≡ held → copies_from held (MCopy target source) ≡ true
  copies_from-mreg target source same = subst (λ h. copies_from h (MCopy target source) ≡ true) same (eq-eqb source source refl)

  -- an operation copies it, or does not set the register
  Reads-behind : (op : Op) (reg : ℕ) (effect : Effect) → Reads (effect_behind op reg effect) held
      → (Reads effect held × (sets reg op ≡ false)) ⊎ (copies_from held op ≡ true)
  Reads-behind (Here target) reg effect reads = at (nat_eq reg target) refl reads
    where
      at : (b : Bool) → nat_eq reg target ≡ b → Reads (if b then here else effect) held
          → (Reads effect held × (nat_eq reg target ≡ false)) ⊎ (copies_from held (Here target) ≡ true)
      at true is reads = absurd reads
      at false is reads = inl (reads, is)
  Reads-behind (Null target) reg effect reads = at (nat_eq reg target) refl reads
    where
      at : (b : Bool) → nat_eq reg target ≡ b → Reads (if b then nothing else effect) held
          → (Reads effect held × (nat_eq reg target ≡ false)) ⊎ (copies_from held (Null target) ≡ true)
      at true is reads = absurd reads
      at false is reads = inl (reads, is)
  Reads-behind (Copy target source) reg effect reads = at (nat_eq reg target) refl reads
    where
      at : (b : Bool) → nat_eq reg target ≡ b → Reads (if b then held_by source else effect) held
          → (Reads effect held × (nat_eq reg target ≡ false)) ⊎ (copies_from held (Copy target source) ≡ true)
      at true is reads = inr (copies_from-reg target source reads)
      at false is reads = inl (reads, is)
  Reads-behind (MHere target) reg effect reads = inl (reads, refl)
  Reads-behind (MNull target) reg effect reads = inl (reads, refl)
  Reads-behind (MCopy target source) reg effect reads = inl (reads, refl)

  Reads-after : (ops : List Op) (reg : ℕ) (effect : Effect) → Reads (effect_after ops reg effect) held
      → (Reads effect held × (list_any (sets reg) ops ≡ false)) ⊎ (list_any (copies_from held) ops ≡ true)
  Reads-after [] reg effect reads = inl (reads, refl)
  Reads-after (op ∷ ops) reg effect reads = at (Reads-after ops reg (effect_behind op reg effect) reads)
    where
      first : list_any (sets reg) ops ≡ false → (Reads effect held × (sets reg op ≡ false)) ⊎ (copies_from held op ≡ true)
          → (Reads effect held × ((sets reg op || list_any (sets reg) ops) ≡ false))
          ⊎ ((copies_from held op || list_any (copies_from held) ops) ≡ true)
      first none (inl (before, unset)) = inl (before, λ i. (ap (λ b. b || list_any (sets reg) ops) unset ∙ none) i)
      first none (inr copies) = inr (or-first (copies_from held op) (list_any (copies_from held) ops) copies)

      at : (Reads (effect_behind op reg effect) held × (list_any (sets reg) ops ≡ false)) ⊎ (list_any (copies_from held) ops ≡ true)
          → (Reads effect held × ((sets reg op || list_any (sets reg) ops) ≡ false))
          ⊎ ((copies_from held op || list_any (copies_from held) ops) ≡ true)
      at (inl (behind, none)) = first none (Reads-behind op reg effect behind)
      at (inr later) = inr (or-second (copies_from held op) (list_any (copies_from held) ops) later)

  origin-behind : (op : Op) (mreg origin : ℕ) → MReg (origin_behind op mreg origin) ≡ held
      → ((MReg origin ≡ held) × (copies_into mreg op ≡ false)) ⊎ (copies_from held op ≡ true)
  origin-behind (MCopy target source) mreg origin is = at (nat_eq mreg target) refl is
    where
      at : (b : Bool) → nat_eq mreg target ≡ b → MReg (if b then source else origin) ≡ held
          → ((MReg origin ≡ held) × (nat_eq mreg target ≡ false)) ⊎ (copies_from held (MCopy target source) ≡ true)
      at true same is = inr (copies_from-mreg target source is)
      at false other is = inl (is, other)
  origin-behind (Here target) mreg origin is = inl (is, refl)
  origin-behind (Null target) mreg origin is = inl (is, refl)
  origin-behind (Copy target source) mreg origin is = inl (is, refl)
  origin-behind (MHere target) mreg origin is = inl (is, refl)
  origin-behind (MNull target) mreg origin is = inl (is, refl)

  origin-after : (ops : List Op) (mreg origin : ℕ) → MReg (origin_after ops mreg origin) ≡ held
      → ((MReg origin ≡ held) × (list_any (copies_into mreg) ops ≡ false)) ⊎ (list_any (copies_from held) ops ≡ true)
  origin-after [] mreg origin is = inl (is, refl)
  origin-after (op ∷ ops) mreg origin is = at (origin-after ops mreg (origin_behind op mreg origin) is)
    where
      first : list_any (copies_into mreg) ops ≡ false
          → ((MReg origin ≡ held) × (copies_into mreg op ≡ false)) ⊎ (copies_from held op ≡ true)
          → ((MReg origin ≡ held) × ((copies_into mreg op || list_any (copies_into mreg) ops) ≡ false))
          ⊎ ((copies_from held op || list_any (copies_from held) ops) ≡ true)
      first none (inl (before, other)) = inl (before, ap (λ b. b || list_any (copies_into mreg) ops) other ∙ none)
      first none (inr copies) = inr (or-first (copies_from held op) (list_any (copies_from held) ops) copies)

      at : ((MReg (origin_behind op mreg origin) ≡ held) × (list_any (copies_into mreg) ops ≡ false))
          ⊎ (list_any (copies_from held) ops ≡ true)
          → ((MReg origin ≡ held) × ((copies_into mreg op || list_any (copies_into mreg) ops) ≡ false))
          ⊎ ((copies_from held op || list_any (copies_from held) ops) ≡ true)
      at (inl (behind, none)) = first none (origin-behind op mreg origin behind)
      at (inr later) = inr (or-second (copies_from held op) (list_any (copies_from held) ops) later)

  -- what a list reads it copies, or it stays where it was
  Reads-sources : (ops : List Op) (next : Held) → Reads (effect_of ops next) held
      → ((next ≡ held) × (list_any (overwrites next) ops ≡ false)) ⊎ (list_any (copies_from held) ops ≡ true)
  Reads-sources ops (Reg reg) reads = Reads-after ops reg (held_by reg) reads
  Reads-sources ops (MReg mreg) reads = origin-after ops mreg mreg reads

  -- an operation before those that overwrite a register makes no difference
  Reads-later : (op : Op) (ops : List Op) (next : Held) → list_any (overwrites next) ops ≡ true → Reads (effect_of ops next) held
      → Reads (effect_of (op ∷ ops) next) held
  Reads-later op ops (Reg reg) over reads =
      subst (λ effect. Reads effect held) (effect_after-set ops reg (held_by reg) (effect_behind op reg (held_by reg)) over) reads
  Reads-later op ops (MReg mreg) over reads = ap MReg (sym (origin_after-copied ops mreg mreg (origin_behind op mreg mreg) over)) ∙ reads

  module _ (IsWanted : Held → Type 0) where
    -- it is read for something that is wanted, and that the list overwrites
    abbrev IsCopied : List Op → Type 0
    IsCopied ops = (next : Held) × IsWanted next × (list_any (overwrites next) ops ≡ true) × Reads (effect_of ops next) held

    IsCopied-here : (op : Op) (ops : List Op) → IsWanted (target_of op) → is_overwritten op ops ≡ false → copies_from held op ≡ true
        → IsCopied (op ∷ ops)
    IsCopied-here (Copy target source) ops wanted last copies = (
      Reg target,
      wanted,
      or-first (nat_eq target target) (list_any (sets target) ops) (eq-eqb target target refl),
      subst (λ effect. Reads effect held)
          (sym (effect_after-unset ops target (if nat_eq target target then held_by source else held_by target) last
          ∙ ap (λ b. if b then held_by source else held_by target) (eq-eqb target target refl)))
          (from held copies),
    )
      where
        from : (h : Held) → copies_from h (Copy target source) ≡ true → Reg source ≡ h
        from (Reg reg) is = ap Reg (sym (eqb-true reg source is))
        from (MReg mreg) is = absurd (cc is)
    IsCopied-here (MCopy target source) ops wanted last copies = (
      MReg target,
      wanted,
      or-first (nat_eq target target) (list_any (copies_into target) ops) (eq-eqb target target refl),
      ap MReg (origin_after-uncopied ops target (if nat_eq target target then source else target) last
          ∙ ap (λ b. if b then source else target) (eq-eqb target target refl))
          ∙ from held copies,
    )
      where
        from : (h : Held) → copies_from h (MCopy target source) ≡ true → MReg source ≡ h
        from (MReg mreg) is = ap MReg (sym (eqb-true mreg source is))
        from (Reg reg) is = absurd (cc is)
    IsCopied-here (Here target) ops wanted last copies = absurd (none held copies)
      where
        none : (h : Held) → copies_from h (Here target) ≡ true → ⊥
        none (Reg reg) is = cc is
        none (MReg mreg) is = cc is
    IsCopied-here (Null target) ops wanted last copies = absurd (none held copies)
      where
        none : (h : Held) → copies_from h (Null target) ≡ true → ⊥
        none (Reg reg) is = cc is
        none (MReg mreg) is = cc is
    IsCopied-here (MHere target) ops wanted last copies = absurd (none held copies)
      where
        none : (h : Held) → copies_from h (MHere target) ≡ true → ⊥
        none (Reg reg) is = cc is
        none (MReg mreg) is = cc is
    IsCopied-here (MNull target) ops wanted last copies = absurd (none held copies)
      where
        none : (h : Held) → copies_from h (MNull target) ≡ true → ⊥
        none (Reg reg) is = cc is
        none (MReg mreg) is = cc is

    IsCopied-later : (op : Op) (ops : List Op) → IsCopied ops → IsCopied (op ∷ ops)
    IsCopied-later op ops (next, wanted, over, reads) =
        (next, wanted, or-second (overwrites next op) (list_any (overwrites next) ops) over, Reads-later op ops next over reads)

    copies-read : (ops kept : List Op) → KeepsWanted IsWanted ops kept → list_any (copies_from held) kept ≡ true → IsCopied kept
    copies-read _ _ ends copies = absurd (cc copies)
    copies-read _ _ (stays op ops kept wanted last keeps) copies =
        at (or-cases (copies_from held op) (list_any (copies_from held) kept) copies) (copies-read ops kept keeps)
      where
        at : (copies_from held op ≡ true) ⊎ (list_any (copies_from held) kept ≡ true)
            → (list_any (copies_from held) kept ≡ true → IsCopied kept)
            → IsCopied (op ∷ kept)
        at (inl first) rest =
            let none = none-first (is_overwritten op ops) (copies_itself op) last in
            IsCopied-here op kept wanted (is_overwritten-kept IsWanted op ops kept keeps none) first
        at (inr later) rest = IsCopied-later op kept (rest later)
    copies-read _ _ (goes op ops kept un keeps) copies = copies-read ops kept keeps copies

  module _ (wanted : List Held) where
    -- what the test tells is read, if each operation is of use
    pub is_read-sound : (ops kept : List Op) → KeepsWanted (IsListed wanted) ops kept
        → is_read wanted kept held ≡ true → (next : Held) × IsListed wanted next × Reads (effect_of kept next) held
    is_read-sound ops kept keeps is =
        at (or-cases (list_any (copies_from held) kept) (list_any (is_same held) wanted && not (list_any (overwrites held) kept)) is)
      where
        at : (list_any (copies_from held) kept ≡ true) ⊎ ((list_any (is_same held) wanted && not (list_any (overwrites held) kept)) ≡ true)
            → (next : Held) × IsListed wanted next × Reads (effect_of kept next) held
        at (inl copies) =
            let found = copies-read (IsListed wanted) ops kept keeps copies in (found.0, found.1, found.3)
        at (inr both) = (
          held,
          and-first (list_any (is_same held) wanted) (not (list_any (overwrites held) kept)) both,
          Reads-unwritten kept held (and-second (list_any (is_same held) wanted) (list_any (overwrites held) kept) both),
        )

    -- and all that is read
    pub is_read-complete : (kept : List Op) (next : Held) → IsListed wanted next → Reads (effect_of kept next) held
        → is_read wanted kept held ≡ true
    is_read-complete kept next listed reads = at (Reads-sources kept next reads)
      where
        at : ((next ≡ held) × (list_any (overwrites next) kept ≡ false)) ⊎ (list_any (copies_from held) kept ≡ true)
            → is_read wanted kept held ≡ true
        at (inl (same, none)) =
            subst (λ h. is_read wanted kept h ≡ true) same
            (or-second (list_any (copies_from next) kept) (list_any (is_same next) wanted && not (list_any (overwrites next) kept))
            (λ i. (ap (λ b. list_any (is_same next) wanted && not b) none ∙ ap (λ b. b && true) listed) i))
        at (inr copies) =
            or-first (list_any (copies_from held) kept) (list_any (is_same held) wanted && not (list_any (overwrites held) kept)) copies
