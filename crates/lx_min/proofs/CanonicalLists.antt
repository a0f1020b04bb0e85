-- The canonical list of a list does the same, and lists that do the same have one.
use Rattle.std.proofs.Common.{◌≡◌, ℕ, List, [], ◌∷◌, ◌++◌, Bool, true, false, if◌then◌else◌, nat_eq, refl, sym, ap, ap₂, ◌∙◌, subst, inl, inr, arith, append-nil, eqb-true}
use Rattle.std.specs.Prelude.{◌⊎◌, ◌↔◌, Contains, map}
use Rattle.std.specs.List.{flat_map}
use Rattle.std.proofs.lemmas.Bool.{eq-eqb}
use Rattle.std.proofs.lemmas.List.Elements.{Contains-append_cases}
use Rattle.lx_auto.specs.declared.automaton.Held.{Held}
use Rattle.lx_auto.specs.declared.automaton.Held.TheVariants.{Reg, MReg}
use Rattle.lx_auto.specs.declared.ops.Op.{Op}
use Rattle.lx_auto.specs.declared.ops.Op.TheVariants.{Here, Null, Copy, MHere, MNull, MCopy}
use Rattle.lx_auto.specs.Effects.{Effect, here, nothing, held_by, history_of, Writes, copies_itself, effect_after, effect_behind, effect_of, marks_by, origin_after, target_of}
use Rattle.lx_auto.specs.ToldApart.{DoTheSame}
use Rattle.lx_auto.proofs.EffectLists.{WritesNot, effect_after-append, effect_after-unwritten, effect_of-unwritten, marks_by-append, marks_by-unwritten, origin_after-append, origin_after-unwritten}
use Rattle.lx_min.specs.Canonical.{canonical, comes_before, marking, op_with, ops_on, targets_of, unless_itself}
use Rattle.lx_min.proofs.ActingTargets.{AreAscending-acting, Has-acting, acting, acting-acts, flat_map-acting}
use Rattle.lx_min.proofs.Targets.{AreAscending, AreAscending-targets_of, Has, Writes-cases, ascending-same, comes_before-itself, has_or_not, targets_of-Has}

-- ---- what is done to one target

-- an effect on a register
abbrev IsOnRegister : Effect → Type 0
IsOnRegister here = Unit {0}
IsOnRegister nothing = Unit {0}
IsOnRegister (held_by reg) = Unit {0}
IsOnRegister (history_of origin marks) = ⊥

IsOnRegister-either : (b : Bool) (effect other : Effect) → IsOnRegister effect → IsOnRegister other
    → IsOnRegister (if b then effect else other)
IsOnRegister-either true effect other first second = first
IsOnRegister-either false effect other first second = second

IsOnRegister-behind : (op : Op) (reg : ℕ) (effect : Effect) → IsOnRegister effect → IsOnRegister (effect_behind op reg effect)
IsOnRegister-behind (Here target) reg effect is = IsOnRegister-either (nat_eq reg target) here effect tt is
IsOnRegister-behind (Null target) reg effect is = IsOnRegister-either (nat_eq reg target) nothing effect tt is
IsOnRegister-behind (Copy target source) reg effect is = IsOnRegister-either (nat_eq reg target) (held_by source) effect tt is
IsOnRegister-behind (MHere target) reg effect is = is
IsOnRegister-behind (MNull target) reg effect is = is
IsOnRegister-behind (MCopy target source) reg effect is = is

IsOnRegister-after : (ops : List Op) (reg : ℕ) (effect : Effect) → IsOnRegister effect → IsOnRegister (effect_after ops reg effect)
IsOnRegister-after [] reg effect is = is
IsOnRegister-after (op ∷ ops) reg effect is = IsOnRegister-after ops reg (effect_behind op reg effect)
    (IsOnRegister-behind op reg effect is)

itself : {X : Type 0} (n : ℕ) (x y : X) → (if nat_eq n n then x else y) ≡ x
itself n x y = ap (λ b. if b then x else y) (eq-eqb n n refl)

-- what a register held is what the operation reads, where it copies that to itself
effect_after-op_with : (reg : ℕ) (effect : Effect) → IsOnRegister effect
    → effect_after (unless_itself (op_with reg effect)) reg (held_by reg) ≡ effect
effect_after-op_with reg here is = itself reg here (held_by reg)
effect_after-op_with reg nothing is = itself reg nothing (held_by reg)
effect_after-op_with reg (history_of origin marks) is = absurd is
effect_after-op_with reg (held_by source) is = by (nat_eq reg source) refl
  where
    by : (b : Bool) → nat_eq reg source ≡ b
        → effect_after (if b then [] else Copy reg source ∷ []) reg (held_by reg) ≡ held_by source
    by true same = ap held_by (eqb-true reg source same)
    by false other = itself reg (held_by source) (held_by reg)

origin_after-copy : (mreg source : ℕ) → origin_after (unless_itself (MCopy mreg source)) mreg mreg ≡ source
origin_after-copy mreg source = by (nat_eq mreg source) refl
  where
    by : (b : Bool) → nat_eq mreg source ≡ b → origin_after (if b then [] else MCopy mreg source ∷ []) mreg mreg ≡ source
    by true same = eqb-true mreg source same
    by false other = itself mreg source mreg

marks_by-copy : (mreg source : ℕ) → marks_by (unless_itself (MCopy mreg source)) mreg ≡ []
marks_by-copy mreg source = by (nat_eq mreg source)
  where
    by : (b : Bool) → marks_by (if b then [] else MCopy mreg source ∷ []) mreg ≡ []
    by true = refl
    by false = refl

origin_after-marking : (marks : List Bool) (mreg origin : ℕ) → origin_after (map (marking mreg) marks) mreg origin ≡ origin
origin_after-marking [] mreg origin = refl
origin_after-marking (true ∷ marks) mreg origin = origin_after-marking marks mreg origin
origin_after-marking (false ∷ marks) mreg origin = origin_after-marking marks mreg origin

marks_by-marking : (marks : List Bool) (mreg : ℕ) → marks_by (map (marking mreg) marks) mreg ≡ marks
marks_by-marking [] mreg = refl
marks_by-marking (true ∷ marks) mreg = ap₂ (λ l rest. l ++ rest) (itself mreg (true ∷ []) []) (marks_by-marking marks mreg)
marks_by-marking (false ∷ marks) mreg = ap₂ (λ l rest. l ++ rest) (itself mreg (false ∷ []) []) (marks_by-marking marks mreg)

-- ---- what is written

target_of-op_with : (reg : ℕ) (effect : Effect) → target_of (op_with reg effect) ≡ Reg reg
target_of-op_with reg here = refl
target_of-op_with reg nothing = refl
target_of-op_with reg (held_by source) = refl
target_of-op_with reg (history_of origin marks) = refl

Writes-none : (held : Held) → Writes [] held → ⊥
Writes-none held (op, (place, within, is), target) = omega arith

Writes-unless_itself : (op : Op) (held : Held) → Writes (unless_itself op) held → target_of op ≡ held
Writes-unless_itself op held writes = by (copies_itself op) writes
  where
    by : (b : Bool) → Writes (if b then [] else op ∷ []) held → target_of op ≡ held
    by true writes = absurd (Writes-none held writes)
    by false writes = elim (Writes-cases op [] held writes) [ inl is ↦ is | inr none ↦ absurd (Writes-none held none) ]

Writes-marking : (marks : List Bool) (mreg : ℕ) (held : Held) → Writes (map (marking mreg) marks) held → MReg mreg ≡ held
Writes-marking [] mreg held (op, (place, within, is), target) = absurd (omega arith)
Writes-marking (true ∷ marks) mreg held writes =
    elim (Writes-cases (MHere mreg) (map (marking mreg) marks) held writes)
    [ inl is ↦ is | inr later ↦ Writes-marking marks mreg held later ]
Writes-marking (false ∷ marks) mreg held writes =
    elim (Writes-cases (MNull mreg) (map (marking mreg) marks) held writes)
    [ inl is ↦ is | inr later ↦ Writes-marking marks mreg held later ]

module _ (ops : List Op) where
  Writes-ops_on : (target held : Held) → Writes (ops_on ops target) held → target ≡ held
  Writes-ops_on (Reg reg) held writes =
      sym (target_of-op_with reg (effect_of ops (Reg reg))) ∙ Writes-unless_itself (op_with reg (effect_of ops (Reg reg))) held writes
  Writes-ops_on (MReg mreg) held (op, contains, is) =
      let copy = unless_itself (MCopy mreg (origin_after ops mreg mreg)) in
      let marks = map (marking mreg) (marks_by ops mreg) in
      elim (Contains-append_cases copy marks op contains) [
        | inl front ↦ Writes-unless_itself (MCopy mreg (origin_after ops mreg mreg)) held (op, front, is)
        | inr back ↦ Writes-marking (marks_by ops mreg) mreg held (op, back, is)
      ]

  -- what the list does to each of some targets
  abbrev done_to : List Held → List Op
  done_to targets = flat_map (ops_on ops) targets

  Writes-done_to : (targets : List Held) (held : Held) → Writes (done_to targets) held → Has targets held
  Writes-done_to [] held (op, (place, within, is), target) = absurd (omega arith)
  Writes-done_to (target ∷ targets) held (op, contains, is) =
      by (Writes-done_to targets held) (Contains-append_cases (ops_on ops target) (done_to targets) op contains)
    where
      by : (Writes (done_to targets) held → Has targets held) → Contains (ops_on ops target) op ⊎ Contains (done_to targets) op
          → (target ≡ held) ⊎ Has targets held
      by later (inl front) = inl (Writes-ops_on target held (op, front, is))
      by later (inr back) = inr (later (op, back, is))

  -- what comes behind the first target does not write it
  first-alone : (target : Held) (targets : List Held) (held : Held) → AreAscending (target ∷ targets) → target ≡ held
      → WritesNot (done_to targets) held
  first-alone target targets held (before, are) same = λ writes. comes_before-itself held
      (subst (λ h. comes_before h held ≡ true) same (before held (Writes-done_to targets held writes)))

  -- what comes behind it is not written by it
  first-other : (target : Held) (targets : List Held) (held : Held) → AreAscending (target ∷ targets) → Has targets held
      → WritesNot (ops_on ops target) held
  first-other target targets held (before, are) has = λ writes. comes_before-itself held
      (subst (λ h. comes_before h held ≡ true) (Writes-ops_on target held writes) (before held has))

  -- ---- effects

  effect_after-done_to : (reg : ℕ) (targets : List Held) → AreAscending targets → Has targets (Reg reg)
      → effect_after (done_to targets) reg (held_by reg) ≡ effect_of ops (Reg reg)
  effect_after-done_to reg [] are has = absurd has
  effect_after-done_to reg (target ∷ targets) are (inl same) =
      effect_after-append (ops_on ops target) (done_to targets) reg (held_by reg)
      ∙ ap (effect_after (done_to targets) reg)
      (ap (λ t. effect_after (ops_on ops t) reg (held_by reg)) same
      ∙ effect_after-op_with reg (effect_of ops (Reg reg)) (IsOnRegister-after ops reg (held_by reg) tt))
      ∙ effect_after-unwritten (done_to targets) reg (effect_of ops (Reg reg)) (first-alone target targets (Reg reg) are same)
  effect_after-done_to reg (target ∷ targets) are (inr has) =
      effect_after-append (ops_on ops target) (done_to targets) reg (held_by reg)
      ∙ ap (effect_after (done_to targets) reg)
      (effect_after-unwritten (ops_on ops target) reg (held_by reg) (first-other target targets (Reg reg) are has))
      ∙ effect_after-done_to reg targets are.1 has

  -- what is done to an m-register itself
  origin_after-ops_on : (mreg : ℕ) → origin_after (ops_on ops (MReg mreg)) mreg mreg ≡ origin_after ops mreg mreg
  origin_after-ops_on mreg =
      let source = origin_after ops mreg mreg in
      origin_after-append (unless_itself (MCopy mreg source)) (map (marking mreg) (marks_by ops mreg)) mreg mreg
      ∙ origin_after-marking (marks_by ops mreg) mreg (origin_after (unless_itself (MCopy mreg source)) mreg mreg)
      ∙ origin_after-copy mreg source

  marks_by-ops_on : (mreg : ℕ) → marks_by (ops_on ops (MReg mreg)) mreg ≡ marks_by ops mreg
  marks_by-ops_on mreg =
      let source = origin_after ops mreg mreg in
      marks_by-append (unless_itself (MCopy mreg source)) (map (marking mreg) (marks_by ops mreg)) mreg
      ∙ ap₂ (λ front back. front ++ back) (marks_by-copy mreg source) (marks_by-marking (marks_by ops mreg) mreg)

  origin_after-done_to : (mreg : ℕ) (targets : List Held) → AreAscending targets → Has targets (MReg mreg)
      → origin_after (done_to targets) mreg mreg ≡ origin_after ops mreg mreg
  origin_after-done_to mreg [] are has = absurd has
  origin_after-done_to mreg (target ∷ targets) are (inl same) =
      origin_after-append (ops_on ops target) (done_to targets) mreg mreg
      ∙ ap (origin_after (done_to targets) mreg) (ap (λ t. origin_after (ops_on ops t) mreg mreg) same ∙ origin_after-ops_on mreg)
      ∙ origin_after-unwritten (done_to targets) mreg (origin_after ops mreg mreg) (first-alone target targets (MReg mreg) are same)
  origin_after-done_to mreg (target ∷ targets) are (inr has) =
      origin_after-append (ops_on ops target) (done_to targets) mreg mreg
      ∙ ap (origin_after (done_to targets) mreg)
      (origin_after-unwritten (ops_on ops target) mreg mreg (first-other target targets (MReg mreg) are has))
      ∙ origin_after-done_to mreg targets are.1 has

  marks_by-done_to : (mreg : ℕ) (targets : List Held) → AreAscending targets → Has targets (MReg mreg)
      → marks_by (done_to targets) mreg ≡ marks_by ops mreg
  marks_by-done_to mreg [] are has = absurd has
  marks_by-done_to mreg (target ∷ targets) are (inl same) =
      marks_by-append (ops_on ops target) (done_to targets) mreg
      ∙ ap₂ (λ front back. front ++ back)
      (ap (λ t. marks_by (ops_on ops t) mreg) same ∙ marks_by-ops_on mreg)
      (marks_by-unwritten (done_to targets) mreg (first-alone target targets (MReg mreg) are same))
      ∙ append-nil (marks_by ops mreg)
  marks_by-done_to mreg (target ∷ targets) are (inr has) =
      marks_by-append (ops_on ops target) (done_to targets) mreg
      ∙ ap₂ (λ front back. front ++ back) (marks_by-unwritten (ops_on ops target) mreg (first-other target targets (MReg mreg) are has))
      (marks_by-done_to mreg targets are.1 has)

  effect_of-done_to : (held : Held) (targets : List Held) → AreAscending targets → Has targets held
      → effect_of (done_to targets) held ≡ effect_of ops held
  effect_of-done_to (Reg reg) targets are has = effect_after-done_to reg targets are has
  effect_of-done_to (MReg mreg) targets are has =
      ap₂ history_of (origin_after-done_to mreg targets are has) (marks_by-done_to mreg targets are has)

  effect_of-canonical : (held : Held) → effect_of (canonical ops) held ≡ effect_of ops held
  effect_of-canonical held = by (has_or_not (targets_of ops) held)
    where
      by : Has (targets_of ops) held ⊎ (Has (targets_of ops) held → ⊥) → effect_of (canonical ops) held ≡ effect_of ops held
      by (inl has) = effect_of-done_to held (targets_of ops) (AreAscending-targets_of ops) has
      by (inr none) =
          effect_of-unwritten (canonical ops) held (λ writes. none (Writes-done_to (targets_of ops) held writes))
          ∙ sym (effect_of-unwritten ops held (λ writes. none (targets_of-Has ops held writes)))

  pub DoTheSame-canonical : DoTheSame (canonical ops) ops
  DoTheSame-canonical = effect_of-canonical

  -- what is not written has nothing done to it
  ops_on-unwritten : (held : Held) → effect_of ops held ≡ effect_of [] held → ops_on ops held ≡ []
  ops_on-unwritten (Reg reg) same =
      ap (λ effect. unless_itself (op_with reg effect)) same ∙ ap (λ b. if b then [] else Copy reg reg ∷ []) (eq-eqb reg reg refl)
  ops_on-unwritten (MReg mreg) same =
      let origin : origin_after ops mreg mreg ≡ mreg = cc same in
      let marks : marks_by ops mreg ≡ [] = cc same in
      ap₂ (λ source list. unless_itself (MCopy mreg source) ++ map (marking mreg) list) origin marks
      ∙ ap (λ b. (if b then [] else MCopy mreg mreg ∷ []) ++ []) (eq-eqb mreg mreg refl)

  -- so something is done only to what is written
  acts-Has : (held : Held) → (ops_on ops held ≡ [] → ⊥) → Has (targets_of ops) held
  acts-Has held acts = elim (has_or_not (targets_of ops) held) [
    | inl has ↦ has
    | inr none ↦
        absurd (acts (ops_on-unwritten held (effect_of-unwritten ops held (λ writes. none (targets_of-Has ops held writes)))))
  ]

-- ---- two lists

module _ (ops others : List Op) where
  canonical-DoTheSame : canonical ops ≡ canonical others → DoTheSame ops others
  canonical-DoTheSame same = λ held.
      sym (effect_of-canonical ops held) ∙ ap (λ list. effect_of list held) same ∙ effect_of-canonical others held

  ops_on-same : (held : Held) → effect_of ops held ≡ effect_of others held → ops_on ops held ≡ ops_on others held
  ops_on-same (Reg reg) same = ap (λ effect. unless_itself (op_with reg effect)) same
  ops_on-same (MReg mreg) same =
      let origin : origin_after ops mreg mreg ≡ origin_after others mreg mreg = cc same in
      let marks : marks_by ops mreg ≡ marks_by others mreg = cc same in
      ap₂ (λ source list. unless_itself (MCopy mreg source) ++ map (marking mreg) list) origin marks

  canonical-same : DoTheSame ops others → canonical ops ≡ canonical others
  canonical-same same =
      let alike : (held : Held) → ops_on ops held ≡ ops_on others held = λ held. ops_on-same held (same held) in
      let targets : acting (ops_on ops) (targets_of ops) ≡ acting (ops_on others) (targets_of others) =
      ascending-same (acting (ops_on ops) (targets_of ops)) (acting (ops_on others) (targets_of others))
      (AreAscending-acting (ops_on ops) (targets_of ops) (AreAscending-targets_of ops))
      (AreAscending-acting (ops_on others) (targets_of others) (AreAscending-targets_of others))
      (λ held has.
      let acts : ops_on others held ≡ [] → ⊥ = λ none. acting-acts (ops_on ops) (targets_of ops) held has (alike held ∙ none) in
      Has-acting (ops_on others) (targets_of others) held (acts-Has others held acts) acts)
      (λ held has.
      let acts : ops_on ops held ≡ [] → ⊥ = λ none.
      acting-acts (ops_on others) (targets_of others) held has (sym (alike held) ∙ none) in
      Has-acting (ops_on ops) (targets_of ops) held (acts-Has ops held acts) acts) in
      sym (flat_map-acting (ops_on ops) (targets_of ops))
      ∙ (λ i. flat_map (λ held. alike held i) (targets i))
      ∙ flat_map-acting (ops_on others) (targets_of others)

  pub canonical-is : (canonical ops ≡ canonical others) ↔ DoTheSame ops others
  canonical-is = (canonical-DoTheSame, canonical-same)
