-- Registers that no operation of a list overwrites.
use Rattle.std.proofs.Common.{◌≡◌, ℕ, List, [], ◌∷◌, Bool, true, false, refl, ◌||◌, if◌then◌else◌, sym, ap, ◌∙◌, subst, eqb-true}
use Rattle.std.specs.List.{list_any}
use Rattle.lx_auto.specs.declared.ops.Op.{Op}
use Rattle.lx_auto.specs.declared.ops.Op.TheVariants.{Here, Null, Copy, MHere, MNull, MCopy}
use Rattle.lx_auto.specs.Effects.{Effect, here, nothing, held_by, copies_into, effect_after, effect_behind, is_overwritten, origin_after, origin_behind, sets}

-- ---- tests

pub none-first : (first second : Bool) → (first || second) ≡ false → first ≡ false
none-first true second none = none
none-first false second none = refl

pub none-second : (first second : Bool) → (first || second) ≡ false → second ≡ false
none-second true second none = absurd (cc none)
none-second false second none = none

-- ---- what no operation overwrites stays as it is

pub effect_behind-unset : (op : Op) (reg : ℕ) (effect : Effect) → sets reg op ≡ false → effect_behind op reg effect ≡ effect
effect_behind-unset (Here target) reg effect none = ap (λ b. if b then here else effect) none
effect_behind-unset (Null target) reg effect none = ap (λ b. if b then nothing else effect) none
effect_behind-unset (Copy target source) reg effect none = ap (λ b. if b then held_by source else effect) none
effect_behind-unset (MHere target) reg effect none = refl
effect_behind-unset (MNull target) reg effect none = refl
effect_behind-unset (MCopy target source) reg effect none = refl

pub effect_after-unset : (ops : List Op) (reg : ℕ) (effect : Effect) → list_any (sets reg) ops ≡ false → effect_after ops reg effect ≡ effect
effect_after-unset [] reg effect none = refl
effect_after-unset (op ∷ ops) reg effect none =
    effect_after-unset ops reg (effect_behind op reg effect) (none-second (sets reg op) (list_any (sets reg) ops) none)
    ∙ effect_behind-unset op reg effect (none-first (sets reg op) (list_any (sets reg) ops) none)

pub origin_behind-uncopied : (op : Op) (mreg origin : ℕ) → copies_into mreg op ≡ false → origin_behind op mreg origin ≡ origin
origin_behind-uncopied (MCopy target source) mreg origin none = ap (λ b. if b then source else origin) none
origin_behind-uncopied (Here target) mreg origin none = refl
origin_behind-uncopied (Null target) mreg origin none = refl
origin_behind-uncopied (Copy target source) mreg origin none = refl
origin_behind-uncopied (MHere target) mreg origin none = refl
origin_behind-uncopied (MNull target) mreg origin none = refl

pub origin_after-uncopied : (ops : List Op) (mreg origin : ℕ) → list_any (copies_into mreg) ops ≡ false → origin_after ops mreg origin ≡ origin
origin_after-uncopied [] mreg origin none = refl
origin_after-uncopied (op ∷ ops) mreg origin none =
    origin_after-uncopied ops mreg (origin_behind op mreg origin) (none-second (copies_into mreg op) (list_any (copies_into mreg) ops) none)
    ∙ origin_behind-uncopied op mreg origin (none-first (copies_into mreg op) (list_any (copies_into mreg) ops) none)

-- ---- where an operation is not overwritten, no later one overwrites its register

pub sets-last : (op : Op) (ops : List Op) (reg : ℕ) → sets reg op ≡ true → is_overwritten op ops ≡ false → list_any (sets reg) ops ≡ false
sets-last (Here target) ops reg is none = subst (λ r. list_any (sets r) ops ≡ false) (sym (eqb-true reg target is)) none
sets-last (Null target) ops reg is none = subst (λ r. list_any (sets r) ops ≡ false) (sym (eqb-true reg target is)) none
sets-last (Copy target source) ops reg is none = subst (λ r. list_any (sets r) ops ≡ false) (sym (eqb-true reg target is)) none
sets-last (MHere target) ops reg is none = absurd (cc is)
sets-last (MNull target) ops reg is none = absurd (cc is)
sets-last (MCopy target source) ops reg is none = absurd (cc is)

pub copies-last : (op : Op) (ops : List Op) (mreg : ℕ) → copies_into mreg op ≡ true → is_overwritten op ops ≡ false
    → list_any (copies_into mreg) ops ≡ false
copies-last (MCopy target source) ops mreg is none = subst (λ r. list_any (copies_into r) ops ≡ false) (sym (eqb-true mreg target is)) none
copies-last (Here target) ops mreg is none = absurd (cc is)
copies-last (Null target) ops mreg is none = absurd (cc is)
copies-last (Copy target source) ops mreg is none = absurd (cc is)
copies-last (MHere target) ops mreg is none = absurd (cc is)
copies-last (MNull target) ops mreg is none = absurd (cc is)
