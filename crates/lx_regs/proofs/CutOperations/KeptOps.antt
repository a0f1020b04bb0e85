-- A list without the operations whose targets are not wanted: what it does to wanted registers, and what holds of its operations.
use Rattle.std.proofs.Common.{◌≡◌, ◌⊎◌, inl, inr, ℕ, List, [], ◌∷◌, ◌++◌, Bool, true, false, refl, nat_eq, ◌||◌, if◌then◌else◌, Contains, sym, ap, ◌∙◌, subst, eqb-true, arith}
use Rattle.std.specs.List.{list_any}
use Rattle.lx_auto.specs.declared.automaton.Auto.{Auto}
use Rattle.lx_auto.specs.declared.automaton.Held.{Held}
use Rattle.lx_auto.specs.declared.automaton.Held.TheVariants.{Reg, MReg}
use Rattle.lx_auto.specs.declared.ops.Op.{Op}
use Rattle.lx_auto.specs.declared.ops.Op.TheVariants.{Here, Null, Copy, MHere, MNull, MCopy}
use Rattle.lx_auto.specs.Automaton.{AreOps}
use Rattle.lx_auto.specs.Effects.{Effect, here, nothing, held_by, history_of, Reads, copies_into, copies_itself, effect_after, effect_behind, effect_of, effect_upon, is_overwritten, mark_by, marks_by, origin_after, origin_behind, sets, target_of}
use Rattle.lx_auto.specs.Live.{EachIsWanted}
use Rattle.lx_auto.proofs.SameLists.{Contains-later}
use Rattle.lx_regs.specs.Dead.{KeepsWanted, ends, stays, goes}
use Rattle.lx_regs.specs.IdleOps.{is_idle}
use Rattle.lx_regs.proofs.CutOperations.UnsetRegisters.{copies-last, effect_after-unset, effect_behind-unset, none-first, origin_after-uncopied, origin_behind-uncopied, sets-last}

-- ---- what an operation gives is forgotten where a later one writes the register again

effect_behind-set : (op : Op) (reg : ℕ) (effect other : Effect) → sets reg op ≡ true
    → effect_behind op reg effect ≡ effect_behind op reg other
effect_behind-set (Here target) reg effect other is =
    ap (λ b. if b then here else effect) is ∙ sym (ap (λ b. if b then here else other) is)
effect_behind-set (Null target) reg effect other is =
    ap (λ b. if b then nothing else effect) is ∙ sym (ap (λ b. if b then nothing else other) is)
effect_behind-set (Copy target source) reg effect other is =
    ap (λ b. if b then held_by source else effect) is ∙ sym (ap (λ b. if b then held_by source else other) is)
effect_behind-set (MHere target) reg effect other is = cc
effect_behind-set (MNull target) reg effect other is = cc
effect_behind-set (MCopy target source) reg effect other is = cc

pub effect_after-set : (ops : List Op) (reg : ℕ) (effect other : Effect) → list_any (sets reg) ops ≡ true
    → effect_after ops reg effect ≡ effect_after ops reg other
effect_after-set [] reg effect other is = cc
effect_after-set (op ∷ ops) reg effect other is =
    at (sets reg op) refl is (effect_after-set ops reg (effect_behind op reg effect) (effect_behind op reg other))
  where
    at : (b : Bool) → sets reg op ≡ b → (b || list_any (sets reg) ops) ≡ true
        → (list_any (sets reg) ops ≡ true
        → effect_after ops reg (effect_behind op reg effect) ≡ effect_after ops reg (effect_behind op reg other))
        → effect_after ops reg (effect_behind op reg effect) ≡ effect_after ops reg (effect_behind op reg other)
    at true sets is rest = ap (effect_after ops reg) (effect_behind-set op reg effect other sets)
    at false sets is rest = rest is

origin_behind-copied : (op : Op) (mreg origin other : ℕ) → copies_into mreg op ≡ true
    → origin_behind op mreg origin ≡ origin_behind op mreg other
origin_behind-copied (MCopy target source) mreg origin other is =
    ap (λ b. if b then source else origin) is ∙ sym (ap (λ b. if b then source else other) is)
origin_behind-copied (Here target) mreg origin other is = cc
origin_behind-copied (Null target) mreg origin other is = cc
origin_behind-copied (Copy target source) mreg origin other is = cc
origin_behind-copied (MHere target) mreg origin other is = cc
origin_behind-copied (MNull target) mreg origin other is = cc

pub origin_after-copied : (ops : List Op) (mreg origin other : ℕ) → list_any (copies_into mreg) ops ≡ true
    → origin_after ops mreg origin ≡ origin_after ops mreg other
origin_after-copied [] mreg origin other is = cc
origin_after-copied (op ∷ ops) mreg origin other is =
    at (copies_into mreg op) refl is (origin_after-copied ops mreg (origin_behind op mreg origin) (origin_behind op mreg other))
  where
    at : (b : Bool) → copies_into mreg op ≡ b → (b || list_any (copies_into mreg) ops) ≡ true
        → (list_any (copies_into mreg) ops ≡ true
        → origin_after ops mreg (origin_behind op mreg origin) ≡ origin_after ops mreg (origin_behind op mreg other))
        → origin_after ops mreg (origin_behind op mreg origin) ≡ origin_after ops mreg (origin_behind op mreg other)
    at true copies is rest = ap (origin_after ops mreg) (origin_behind-copied op mreg origin other copies)
    at false copies is rest = rest is

-- ---- what is not kept does nothing to what is wanted

-- what is idle is overwritten, or copies a register to itself
idle-cases : (over itself : Bool) → (over || itself) ≡ true → (over ≡ true) ⊎ (itself ≡ true)
idle-cases true itself is = inl refl
idle-cases false itself is = inr is

idle-over : (over : Bool) → (over || false) ≡ true → over ≡ true
idle-over true is = refl
idle-over false is = is

module _ (IsWanted : Held → Type 0) where
  list_any-kept : (test : Op → Bool) (ops kept : List Op) → KeepsWanted IsWanted ops kept → list_any test ops ≡ false
      → list_any test kept ≡ false
  list_any-kept test _ _ ends none = none
  list_any-kept test _ _ (stays op ops kept needed last keeps) none = at (test op) none (list_any-kept test ops kept keeps)
    where
      at : (b : Bool) → (b || list_any test ops) ≡ false → (list_any test ops ≡ false → list_any test kept ≡ false)
          → (b || list_any test kept) ≡ false
      at true none rest = absurd (cc none)
      at false none rest = rest none
  list_any-kept test _ _ (goes op ops kept un keeps) none = at (test op) none (list_any-kept test ops kept keeps)
    where
      at : (b : Bool) → (b || list_any test ops) ≡ false → (list_any test ops ≡ false → list_any test kept ≡ false)
          → list_any test kept ≡ false
      at true none rest = absurd (cc none)
      at false none rest = rest none

  -- it is not wanted, or does nothing
  abbrev IsUnwanted : Op → List Op → Type 0
  IsUnwanted op ops = IsWanted (target_of op) → is_idle op ops ≡ true

  -- it is written again, or holds what it held
  write-unwanted : (ops : List Op) (reg target : ℕ) (written : Effect) → IsWanted (Reg reg)
      → (IsWanted (Reg target) → (list_any (sets target) ops ≡ true) ⊎ (written ≡ held_by target))
      → effect_after ops reg (held_by reg) ≡ effect_after ops reg (if nat_eq reg target then written else held_by reg)
  write-unwanted ops reg target written wanted un = at (nat_eq reg target) refl
    where
      by : reg ≡ target → (list_any (sets target) ops ≡ true) ⊎ (written ≡ held_by target)
          → effect_after ops reg (held_by reg) ≡ effect_after ops reg written
      by same (inl over) =
          effect_after-set ops reg (held_by reg) written (subst (λ r. list_any (sets r) ops ≡ true) (sym same) over)
      by same (inr is) = ap (effect_after ops reg) (ap held_by same ∙ sym is)

      at : (b : Bool) → nat_eq reg target ≡ b
          → effect_after ops reg (held_by reg) ≡ effect_after ops reg (if b then written else held_by reg)
      at false is = refl
      at true is =
          let same : reg ≡ target = eqb-true reg target is in by same (un (subst (λ r. IsWanted (Reg r)) same wanted))

  copy-unwanted : (over : Bool) (target source : ℕ) → (over || nat_eq target source) ≡ true
      → (over ≡ true) ⊎ (held_by source ≡ held_by target)
  copy-unwanted over target source is = by (idle-cases over (nat_eq target source) is)
    where
      by : (over ≡ true) ⊎ (nat_eq target source ≡ true) → (over ≡ true) ⊎ (held_by source ≡ held_by target)
      by (inl overwritten) = inl overwritten
      by (inr same) = inr (ap held_by (sym (eqb-true target source same)))

  effect_behind-unwanted : (op : Op) (ops : List Op) (reg : ℕ) → IsWanted (Reg reg) → IsUnwanted op ops
      → effect_after ops reg (held_by reg) ≡ effect_after ops reg (effect_behind op reg (held_by reg))
  effect_behind-unwanted (Here target) ops reg wanted un =
      write-unwanted ops reg target here wanted (λ is. inl (idle-over (list_any (sets target) ops) (un is)))
  effect_behind-unwanted (Null target) ops reg wanted un =
      write-unwanted ops reg target nothing wanted (λ is. inl (idle-over (list_any (sets target) ops) (un is)))
  effect_behind-unwanted (Copy target source) ops reg wanted un =
      write-unwanted ops reg target (held_by source) wanted
      (λ is. copy-unwanted (list_any (sets target) ops) target source (un is))
  effect_behind-unwanted (MHere target) ops reg wanted un = refl
  effect_behind-unwanted (MNull target) ops reg wanted un = refl
  effect_behind-unwanted (MCopy target source) ops reg wanted un = refl

  origin_behind-unwanted : (op : Op) (ops : List Op) (mreg : ℕ) → IsWanted (MReg mreg) → IsUnwanted op ops
      → origin_after ops mreg mreg ≡ origin_after ops mreg (origin_behind op mreg mreg)
  origin_behind-unwanted (Here target) ops mreg wanted un = refl
  origin_behind-unwanted (Null target) ops mreg wanted un = refl
  origin_behind-unwanted (Copy target source) ops mreg wanted un = refl
  origin_behind-unwanted (MHere target) ops mreg wanted un = refl
  origin_behind-unwanted (MNull target) ops mreg wanted un = refl
  origin_behind-unwanted (MCopy target source) ops mreg wanted un = at (nat_eq mreg target) refl
    where
      by : mreg ≡ target → (list_any (copies_into target) ops ≡ true) ⊎ (nat_eq target source ≡ true)
          → origin_after ops mreg mreg ≡ origin_after ops mreg source
      by same (inl over) =
          origin_after-copied ops mreg mreg source (subst (λ r. list_any (copies_into r) ops ≡ true) (sym same) over)
      by same (inr is) = ap (origin_after ops mreg) (same ∙ eqb-true target source is)

      at : (b : Bool) → nat_eq mreg target ≡ b → origin_after ops mreg mreg ≡ origin_after ops mreg (if b then source else mreg)
      at false is = refl
      at true is =
          let same : mreg ≡ target = eqb-true mreg target is in
          by same (idle-cases (list_any (copies_into target) ops) (nat_eq target source) (un (subst (λ r. IsWanted (MReg r)) same wanted)))

  -- an operation that puts a mark at the end is never overwritten
  mark-unwanted : (mreg target : ℕ) (mark : Bool) → IsWanted (MReg mreg) → (IsWanted (MReg target) → false ≡ true)
      → [] ≡ (if nat_eq mreg target then mark ∷ [] else [])
  mark-unwanted mreg target mark wanted un = at (nat_eq mreg target) refl
    where
      at : (b : Bool) → nat_eq mreg target ≡ b → [] ≡ (if b then mark ∷ [] else [])
      at false is = refl
      at true is =
          let impossible : false ≡ true = un (subst (λ r. IsWanted (MReg r)) (eqb-true mreg target is) wanted) in absurd (cc impossible)

  mark_by-unwanted : (op : Op) (ops : List Op) (mreg : ℕ) → IsWanted (MReg mreg) → IsUnwanted op ops → [] ≡ mark_by op mreg
  mark_by-unwanted (Here target) ops mreg wanted un = refl
  mark_by-unwanted (Null target) ops mreg wanted un = refl
  mark_by-unwanted (Copy target source) ops mreg wanted un = refl
  mark_by-unwanted (MHere target) ops mreg wanted un = mark-unwanted mreg target true wanted un
  mark_by-unwanted (MNull target) ops mreg wanted un = mark-unwanted mreg target false wanted un
  mark_by-unwanted (MCopy target source) ops mreg wanted un = refl

  effect_after-kept : (ops kept : List Op) (reg : ℕ) → KeepsWanted IsWanted ops kept → IsWanted (Reg reg)
      → effect_after kept reg (held_by reg) ≡ effect_after ops reg (held_by reg)
  effect_after-kept _ _ reg ends wanted = refl
  effect_after-kept _ _ reg (stays op ops kept needed last keeps) wanted =
      at (sets reg op) refl (effect_after-kept ops kept reg keeps wanted)
    where
      at : (b : Bool) → sets reg op ≡ b → effect_after kept reg (held_by reg) ≡ effect_after ops reg (held_by reg)
          → effect_after kept reg (effect_behind op reg (held_by reg)) ≡ effect_after ops reg (effect_behind op reg (held_by reg))
      at true is rest =
          let none = sets-last op ops reg is (none-first (is_overwritten op ops) (copies_itself op) last) in
          effect_after-unset kept reg (effect_behind op reg (held_by reg)) (list_any-kept (sets reg) ops kept keeps none)
          ∙ sym (effect_after-unset ops reg (effect_behind op reg (held_by reg)) none)
      at false is rest =
          let same = effect_behind-unset op reg (held_by reg) is in
          ap (effect_after kept reg) same ∙ rest ∙ sym (ap (effect_after ops reg) same)
  effect_after-kept _ _ reg (goes op ops kept un keeps) wanted =
      effect_after-kept ops kept reg keeps wanted ∙ effect_behind-unwanted op ops reg wanted un

  origin_after-kept : (ops kept : List Op) (mreg : ℕ) → KeepsWanted IsWanted ops kept → IsWanted (MReg mreg)
      → origin_after kept mreg mreg ≡ origin_after ops mreg mreg
  origin_after-kept _ _ mreg ends wanted = refl
  origin_after-kept _ _ mreg (stays op ops kept needed last keeps) wanted =
      at (copies_into mreg op) refl (origin_after-kept ops kept mreg keeps wanted)
    where
      at : (b : Bool) → copies_into mreg op ≡ b → origin_after kept mreg mreg ≡ origin_after ops mreg mreg
          → origin_after kept mreg (origin_behind op mreg mreg) ≡ origin_after ops mreg (origin_behind op mreg mreg)
      at true is rest =
          let none = copies-last op ops mreg is (none-first (is_overwritten op ops) (copies_itself op) last) in
          origin_after-uncopied kept mreg (origin_behind op mreg mreg) (list_any-kept (copies_into mreg) ops kept keeps none)
          ∙ sym (origin_after-uncopied ops mreg (origin_behind op mreg mreg) none)
      at false is rest =
          let same = origin_behind-uncopied op mreg mreg is in
          ap (origin_after kept mreg) same ∙ rest ∙ sym (ap (origin_after ops mreg) same)
  origin_after-kept _ _ mreg (goes op ops kept un keeps) wanted =
      origin_after-kept ops kept mreg keeps wanted ∙ origin_behind-unwanted op ops mreg wanted un

  marks_by-kept : (ops kept : List Op) (mreg : ℕ) → KeepsWanted IsWanted ops kept → IsWanted (MReg mreg)
      → marks_by kept mreg ≡ marks_by ops mreg
  marks_by-kept _ _ mreg ends wanted = refl
  marks_by-kept _ _ mreg (stays op ops kept needed last keeps) wanted =
      ap (λ marks. mark_by op mreg ++ marks) (marks_by-kept ops kept mreg keeps wanted)
  marks_by-kept _ _ mreg (goes op ops kept un keeps) wanted =
      marks_by-kept ops kept mreg keeps wanted ∙ ap (λ front. front ++ marks_by ops mreg) (mark_by-unwanted op ops mreg wanted un)

  -- what is wanted gets the same
  pub effect_of-kept : (ops kept : List Op) (held : Held) → KeepsWanted IsWanted ops kept → IsWanted held
      → effect_of kept held ≡ effect_of ops held
  effect_of-kept ops kept (Reg reg) keeps wanted = effect_after-kept ops kept reg keeps wanted
  effect_of-kept ops kept (MReg mreg) keeps wanted =
      λ i. history_of (origin_after-kept ops kept mreg keeps wanted i) (marks_by-kept ops kept mreg keeps wanted i)

  -- ---- what holds of the operations that stay

  pub is_overwritten-kept : (op : Op) (ops kept : List Op) → KeepsWanted IsWanted ops kept → is_overwritten op ops ≡ false
      → is_overwritten op kept ≡ false
  is_overwritten-kept (Here target) ops kept keeps last = list_any-kept (sets target) ops kept keeps last
  is_overwritten-kept (Null target) ops kept keeps last = list_any-kept (sets target) ops kept keeps last
  is_overwritten-kept (Copy target source) ops kept keeps last = list_any-kept (sets target) ops kept keeps last
  is_overwritten-kept (MHere target) ops kept keeps last = refl
  is_overwritten-kept (MNull target) ops kept keeps last = refl
  is_overwritten-kept (MCopy target source) ops kept keeps last = list_any-kept (copies_into target) ops kept keeps last

  -- each operation that stays writes what is wanted, also by other words for it
  pub EachIsWanted-kept : (auto : Auto) (IsAlsoWanted : Held → Type 0) → ((held : Held) → IsWanted held → IsAlsoWanted held)
      → (ops kept : List Op) → KeepsWanted IsWanted ops kept → EachIsWanted auto IsAlsoWanted kept
  EachIsWanted-kept auto IsAlsoWanted also _ _ ends = tt
  EachIsWanted-kept auto IsAlsoWanted also _ _ (stays op ops kept needed last keeps) =
      let none = none-first (is_overwritten op ops) (copies_itself op) last in
      (also (target_of op) needed, is_overwritten-kept op ops kept keeps none, EachIsWanted-kept auto IsAlsoWanted also ops kept keeps)
  EachIsWanted-kept auto IsAlsoWanted also _ _ (goes op ops kept un keeps) = EachIsWanted-kept auto IsAlsoWanted also ops kept keeps

  pub AreOps-kept : (regs mregs : ℕ) (ops kept : List Op) → KeepsWanted IsWanted ops kept → AreOps regs mregs ops → AreOps regs mregs kept
  AreOps-kept regs mregs _ _ ends are = tt
  AreOps-kept regs mregs _ _ (stays op ops kept needed last keeps) are = (are.0, AreOps-kept regs mregs ops kept keeps are.1)
  AreOps-kept regs mregs _ _ (goes op ops kept un keeps) are = AreOps-kept regs mregs ops kept keeps are.1

  -- other words for what is wanted, of the targets of the list
  pub KeepsWanted-alike : (IsAlsoWanted : Held → Type 0) (ops kept : List Op)
      → ((op : Op) → Contains ops op → IsWanted (target_of op) → IsAlsoWanted (target_of op))
      → ((op : Op) → Contains ops op → IsAlsoWanted (target_of op) → IsWanted (target_of op)) → KeepsWanted IsWanted ops kept
      → KeepsWanted IsAlsoWanted ops kept
  KeepsWanted-alike IsAlsoWanted _ _ to back ends = ends
  KeepsWanted-alike IsAlsoWanted _ _ to back (stays op ops kept needed last keeps) =
      stays op ops kept (to op (0, omega arith, refl) needed) last
      (KeepsWanted-alike IsAlsoWanted ops kept (λ other has. to other (Contains-later op ops other has))
      (λ other has. back other (Contains-later op ops other has)) keeps)
  KeepsWanted-alike IsAlsoWanted _ _ to back (goes op ops kept un keeps) =
      goes op ops kept (λ wanted. un (back op (0, omega arith, refl) wanted))
      (KeepsWanted-alike IsAlsoWanted ops kept (λ other has. to other (Contains-later op ops other has))
      (λ other has. back other (Contains-later op ops other has)) keeps)

-- a first list that does the same to what an effect reads
pub effect_upon-alike : (first other : List Op) (effect : Effect)
    → ((held : Held) → Reads effect held → effect_of other held ≡ effect_of first held)
    → effect_upon other effect ≡ effect_upon first effect
effect_upon-alike first other here same = refl
effect_upon-alike first other nothing same = refl
effect_upon-alike first other (held_by reg) same = same (Reg reg) refl
effect_upon-alike first other (history_of mreg marks) same =
    let both : history_of (origin_after other mreg mreg) (marks_by other mreg)
    ≡ history_of (origin_after first mreg mreg) (marks_by first mreg) =
    same (MReg mreg) refl in
    let origin : origin_after other mreg mreg ≡ origin_after first mreg mreg = cc both in
    let front : marks_by other mreg ≡ marks_by first mreg = cc both in
    λ i. history_of (origin i) (front i ++ marks)
