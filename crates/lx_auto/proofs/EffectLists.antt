-- Effects of lists that are put together, of lists that do not write, and of two lists at once by other names.
use Rattle.std.proofs.Common.{◌≡◌, ◌≢◌, ℕ, List, [], ◌∷◌, ◌++◌, Bool, true, false, refl, if◌then◌else◌, nat_eq, sym, ap, ap₂, ◌∙◌, append_assoc, arith}
use Rattle.std.proofs.lemmas.Bool.{ne_eqb}
use Rattle.lx_auto.specs.declared.automaton.Held.{Held}
use Rattle.lx_auto.specs.declared.automaton.Held.TheVariants.{Reg, MReg}
use Rattle.lx_auto.specs.declared.ops.Op.{Op}
use Rattle.lx_auto.specs.declared.ops.Op.TheVariants.{Here, Null, Copy, MHere, MNull, MCopy}
use Rattle.lx_auto.specs.Effects.{Effect, here, nothing, held_by, history_of, Names, Reads, Writes, effect_after, effect_behind, effect_of, effect_of_both, effect_upon, mark_by, marks_by, origin_after, origin_behind, renamed, renamed_effect, same_names, target_of}
use Rattle.lx_auto.proofs.Effects.{renamed-same, renamed_effect-same}
use Rattle.lx_auto.proofs.SameLists.{Contains-later}

-- ---- of a list in two parts

pub effect_after-append : (front back : List Op) (reg : ℕ) (effect : Effect)
    → effect_after (front ++ back) reg effect ≡ effect_after back reg (effect_after front reg effect)
effect_after-append [] back reg effect = refl
effect_after-append (op ∷ front) back reg effect = effect_after-append front back reg (effect_behind op reg effect)

pub origin_after-append : (front back : List Op) (mreg origin : ℕ)
    → origin_after (front ++ back) mreg origin ≡ origin_after back mreg (origin_after front mreg origin)
origin_after-append [] back mreg origin = refl
origin_after-append (op ∷ front) back mreg origin = origin_after-append front back mreg (origin_behind op mreg origin)

pub marks_by-append : (front back : List Op) (mreg : ℕ) → marks_by (front ++ back) mreg ≡ marks_by front mreg ++ marks_by back mreg
marks_by-append [] back mreg = refl
marks_by-append (op ∷ front) back mreg =
    ap (λ marks. mark_by op mreg ++ marks) (marks_by-append front back mreg)
    ∙ sym (append_assoc (mark_by op mreg) (marks_by front mreg) (marks_by back mreg))

-- ---- of a list that does not write

other : {X : Type 0} (n m : ℕ) (x y : X) → n ≢ m → (if nat_eq n m then x else y) ≡ y
other n m x y differ = ap (λ b. if b then x else y) (ne_eqb n m differ)

effect_behind-other : (op : Op) (reg : ℕ) (effect : Effect) → target_of op ≢ Reg reg → effect_behind op reg effect ≡ effect
effect_behind-other (Here target) reg effect differ = other reg target here effect (λ same. differ (ap Reg (sym same)))
effect_behind-other (Null target) reg effect differ = other reg target nothing effect (λ same. differ (ap Reg (sym same)))
effect_behind-other (Copy target source) reg effect differ = other reg target (held_by source) effect (λ same. differ (ap Reg (sym same)))
effect_behind-other (MHere target) reg effect differ = refl
effect_behind-other (MNull target) reg effect differ = refl
effect_behind-other (MCopy target source) reg effect differ = refl

origin_behind-other : (op : Op) (mreg origin : ℕ) → target_of op ≢ MReg mreg → origin_behind op mreg origin ≡ origin
origin_behind-other (Here target) mreg origin differ = refl
origin_behind-other (Null target) mreg origin differ = refl
origin_behind-other (Copy target source) mreg origin differ = refl
origin_behind-other (MHere target) mreg origin differ = refl
origin_behind-other (MNull target) mreg origin differ = refl
origin_behind-other (MCopy target source) mreg origin differ = other mreg target source origin (λ same. differ (ap MReg (sym same)))

mark_by-other : (op : Op) (mreg : ℕ) → target_of op ≢ MReg mreg → mark_by op mreg ≡ []
mark_by-other (Here target) mreg differ = refl
mark_by-other (Null target) mreg differ = refl
mark_by-other (Copy target source) mreg differ = refl
mark_by-other (MHere target) mreg differ = other mreg target (true ∷ []) [] (λ same. differ (ap MReg (sym same)))
mark_by-other (MNull target) mreg differ = other mreg target (false ∷ []) [] (λ same. differ (ap MReg (sym same)))
mark_by-other (MCopy target source) mreg differ = refl

abbrev pub WritesNot : List Op → Held → Type 0
WritesNot ops held = Writes ops held → ⊥

first-differs : (op : Op) (ops : List Op) (held : Held) → WritesNot (op ∷ ops) held → target_of op ≢ held
first-differs op ops held none = λ same. none (op, (0, omega arith, refl), same)

others-differ : (op : Op) (ops : List Op) (held : Held) → WritesNot (op ∷ ops) held → WritesNot ops held
others-differ op ops held none = λ writes. none (writes.0, Contains-later op ops writes.0 writes.1, writes.2)

pub effect_after-unwritten : (ops : List Op) (reg : ℕ) (effect : Effect) → WritesNot ops (Reg reg) → effect_after ops reg effect ≡ effect
effect_after-unwritten [] reg effect none = refl
effect_after-unwritten (op ∷ ops) reg effect none =
    ap (effect_after ops reg) (effect_behind-other op reg effect (first-differs op ops (Reg reg) none))
    ∙ effect_after-unwritten ops reg effect (others-differ op ops (Reg reg) none)

pub origin_after-unwritten : (ops : List Op) (mreg origin : ℕ) → WritesNot ops (MReg mreg) → origin_after ops mreg origin ≡ origin
origin_after-unwritten [] mreg origin none = refl
origin_after-unwritten (op ∷ ops) mreg origin none =
    ap (origin_after ops mreg) (origin_behind-other op mreg origin (first-differs op ops (MReg mreg) none))
    ∙ origin_after-unwritten ops mreg origin (others-differ op ops (MReg mreg) none)

pub marks_by-unwritten : (ops : List Op) (mreg : ℕ) → WritesNot ops (MReg mreg) → marks_by ops mreg ≡ []
marks_by-unwritten [] mreg none = refl
marks_by-unwritten (op ∷ ops) mreg none =
    λ i. mark_by-other op mreg (first-differs op ops (MReg mreg) none) i ++ marks_by-unwritten ops mreg (others-differ op ops (MReg mreg) none) i

-- what is not written stays: the effect is that of the empty list
pub effect_of-unwritten : (ops : List Op) (held : Held) → WritesNot ops held → effect_of ops held ≡ effect_of [] held
effect_of-unwritten ops (Reg reg) none = effect_after-unwritten ops reg (held_by reg) none
effect_of-unwritten ops (MReg mreg) none =
    ap₂ history_of (origin_after-unwritten ops mreg mreg none) (marks_by-unwritten ops mreg none)

-- ---- of two lists, by what each of them does

-- an effect with further marks
with_marks : (marks : List Bool) → Effect → Effect
with_marks marks here = here
with_marks marks nothing = nothing
with_marks marks (held_by reg) = held_by reg
with_marks marks (history_of mreg front) = history_of mreg (front ++ marks)

-- what is read has one name behind the first lists, and another one before them
pub effect_upon-renamed : (behind before : Names) (first other : List Op) (effect : Effect)
    → ((held : Held) → Reads effect held → effect_of other (renamed behind held) ≡ renamed_effect before (effect_of first held))
    → effect_upon other (renamed_effect behind effect) ≡ renamed_effect before (effect_upon first effect)
unfolding with_marks
effect_upon-renamed behind before first other here agree = refl
effect_upon-renamed behind before first other nothing agree = refl
effect_upon-renamed behind before first other (held_by reg) agree = agree (Reg reg) refl
effect_upon-renamed behind before first other (history_of mreg marks) agree = ap (with_marks marks) (agree (MReg mreg) refl)

pub effect_of_both-renamed : (last behind before : Names) (first second other next : List Op) (held : Held)
    → effect_of next (renamed last held) ≡ renamed_effect behind (effect_of second held)
    → ((middle : Held) → Reads (effect_of second held) middle
    → effect_of other (renamed behind middle) ≡ renamed_effect before (effect_of first middle))
    → effect_of_both other next (renamed last held) ≡ renamed_effect before (effect_of_both first second held)
effect_of_both-renamed last behind before first second other next held same agree =
    ap (effect_upon other) same ∙ effect_upon-renamed behind before first other (effect_of second held) agree

-- the same where each register keeps its name
pub effect_of_both-same : (first second other next : List Op) (held : Held) → effect_of next held ≡ effect_of second held
    → ((middle : Held) → Reads (effect_of second held) middle → effect_of other middle ≡ effect_of first middle)
    → effect_of_both other next held ≡ effect_of_both first second held
effect_of_both-same first second other next held same agree =
    ap (effect_upon other) (same ∙ sym (renamed_effect-same (effect_of second held)))
    ∙ effect_upon-renamed same_names same_names first other (effect_of second held)
    (λ middle reads. ap (effect_of other) (renamed-same middle) ∙ agree middle reads ∙ sym (renamed_effect-same (effect_of first middle)))
    ∙ renamed_effect-same (effect_of_both first second held)
