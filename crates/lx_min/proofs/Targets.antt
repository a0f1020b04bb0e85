-- The targets of a list stand in ascending order, and are just what the list writes.
use Rattle.std.proofs.Common.{◌≡◌, zero, suc, List, [], ◌∷◌, Bool, true, false, if◌then◌else◌, refl, sym, ap, ap₂, ◌∙◌, subst, inl, inr, arith}
use Rattle.std.specs.Prelude.{◌⊎◌}
use Rattle.std.proofs.lemmas.Bool.{lt-ltb, ltb-false, ltb-true}
use Rattle.lx_auto.specs.declared.automaton.Held.{Held}
use Rattle.lx_auto.specs.declared.automaton.Held.TheVariants.{Reg, MReg}
use Rattle.lx_auto.specs.declared.ops.Op.{Op}
use Rattle.lx_auto.specs.Effects.{Writes, target_of}
use Rattle.lx_auto.proofs.SameLists.{Contains-later}
use Rattle.lx_min.specs.Canonical.{comes_before, targets_of, targets_onto, with_target}

-- ---- the order

pub comes_before-itself : (held : Held) → comes_before held held ≡ true → ⊥
comes_before-itself (Reg reg) is = let less = ltb-true reg reg is in omega (arith, less)
comes_before-itself (MReg mreg) is = let less = ltb-true mreg mreg is in omega (arith, less)

comes_before-through : (held other third : Held) → comes_before held other ≡ true → comes_before other third ≡ true
    → comes_before held third ≡ true
comes_before-through (Reg reg) (Reg other) (Reg third) first second =
    let less = ltb-true reg other first in let more = ltb-true other third second in lt-ltb reg third (omega (arith, less, more))
comes_before-through (Reg reg) (Reg other) (MReg third) first second = refl
comes_before-through (Reg reg) (MReg other) (Reg third) first second = absurd (cc second)
comes_before-through (Reg reg) (MReg other) (MReg third) first second = refl
comes_before-through (MReg mreg) (Reg other) third first second = absurd (cc first)
comes_before-through (MReg mreg) (MReg other) (Reg third) first second = second
comes_before-through (MReg mreg) (MReg other) (MReg third) first second =
    let less = ltb-true mreg other first in let more = ltb-true other third second in lt-ltb mreg third (omega (arith, less, more))

comes_before-neither : (held other : Held) → comes_before held other ≡ false → comes_before other held ≡ false → held ≡ other
comes_before-neither (Reg reg) (Reg other) first second =
    let most = ltb-false reg other first in let least = ltb-false other reg second in ap Reg (omega (arith, most, least))
comes_before-neither (Reg reg) (MReg other) first second = absurd (cc first)
comes_before-neither (MReg mreg) (Reg other) first second = absurd (cc second)
comes_before-neither (MReg mreg) (MReg other) first second =
    let most = ltb-false mreg other first in let least = ltb-false other mreg second in ap MReg (omega (arith, most, least))

-- ---- lists in ascending order

-- it stands in the list
abbrev pub Has : List Held → Held → Type 0
Has [] held = ⊥
Has (other ∷ targets) held = (other ≡ held) ⊎ Has targets held

-- it comes before all of the list
abbrev pub IsBeforeAll : Held → List Held → Type 0
IsBeforeAll held targets = (other : Held) → Has targets other → comes_before held other ≡ true

abbrev pub AreAscending : List Held → Type 0
AreAscending [] = Unit {0}
AreAscending (held ∷ targets) = IsBeforeAll held targets × AreAscending targets

same_held : (held other : Held) → (held ≡ other) ⊎ (held ≡ other → ⊥)
same_held held other = by (comes_before held other) (comes_before other held) refl refl
  where
    by : (a b : Bool) → comes_before held other ≡ a → comes_before other held ≡ b → (held ≡ other) ⊎ (held ≡ other → ⊥)
    by true b first second = inr (λ same. comes_before-itself other (subst (λ h. comes_before h other ≡ true) same first))
    by false true first second = inr (λ same. comes_before-itself other (subst (λ h. comes_before other h ≡ true) same second))
    by false false first second = inl (comes_before-neither held other first second)

-- whether it stands there
pub has_or_not : (targets : List Held) (held : Held) → Has targets held ⊎ (Has targets held → ⊥)
has_or_not [] held = inr (λ has. has)
has_or_not (other ∷ targets) held = by (same_held other held) (has_or_not targets held)
  where
    by : (other ≡ held) ⊎ (other ≡ held → ⊥) → Has targets held ⊎ (Has targets held → ⊥)
        → ((other ≡ held) ⊎ Has targets held) ⊎ ((other ≡ held) ⊎ Has targets held → ⊥)
    by (inl same) later = inl (inl same)
    by (inr differ) (inl has) = inl (inr has)
    by (inr differ) (inr none) = inr (λ has. elim has [ inl same ↦ differ same | inr there ↦ none there ])

-- two such lists of the same are one
pub ascending-same : (targets others : List Held) → AreAscending targets → AreAscending others
    → ((held : Held) → Has targets held → Has others held)
    → ((held : Held) → Has others held → Has targets held) → targets ≡ others
ascending-same [] [] first second on back = refl
ascending-same [] (other ∷ others) first second on back = absurd (back other (inl refl))
ascending-same (held ∷ targets) [] first second on back = absurd (on held (inl refl))
ascending-same (held ∷ targets) (other ∷ others) (before, first) (behind, second) on back =
    let head : held ≡ other = heads (on held (inl refl)) (back other (inl refl)) in
    ap₂ (λ h l. h ∷ l) head (ascending-same targets others first second
    (λ third has. later third has head (on third (inr has)))
    (λ third has. earlier third has head (back third (inr has))))
  where
    heads : (other ≡ held) ⊎ Has others held → (held ≡ other) ⊎ Has targets other → held ≡ other
    heads (inl same) has = sym same
    heads (inr there) (inl same) = same
    heads (inr there) (inr here) =
        absurd (comes_before-itself held (comes_before-through held other held (before other here) (behind held there)))

    later : (third : Held) → Has targets third → held ≡ other → (other ≡ third) ⊎ Has others third → Has others third
    later third has head (inl same) =
        absurd (comes_before-itself held (subst (λ h. comes_before held h ≡ true) (sym (head ∙ same)) (before third has)))
    later third has head (inr there) = there

    earlier : (third : Held) → Has others third → held ≡ other → (held ≡ third) ⊎ Has targets third → Has targets third
    earlier third has head (inl same) =
        absurd (comes_before-itself other (subst (λ h. comes_before other h ≡ true) (sym same ∙ head) (behind third has)))
    earlier third has head (inr there) = there

-- ---- with one more target

module _ (held : Held) where
  with_target-Has : (targets : List Held) (third : Held) → (held ≡ third) ⊎ Has targets third → Has (with_target held targets) third
  with_target-Has [] third has = has
  with_target-Has (other ∷ targets) third has =
      by (comes_before other held) (comes_before held other) refl refl (with_target-Has targets third) has
    where
      by : (a b : Bool) → comes_before other held ≡ a → comes_before held other ≡ b
          → ((held ≡ third) ⊎ Has targets third → Has (with_target held targets) third)
          → (held ≡ third) ⊎ ((other ≡ third) ⊎ Has targets third)
          → Has (if a then other ∷ with_target held targets else (if b then held ∷ other ∷ targets else other ∷ targets)) third
      by true b first second later (inl same) = inr (later (inl same))
      by true b first second later (inr (inl same)) = inl same
      by true b first second later (inr (inr there)) = inr (later (inr there))
      by false true first second later has = has
      by false false first second later (inl same) = inl (comes_before-neither other held first second ∙ same)
      by false false first second later (inr there) = there

  Has-with_target : (targets : List Held) (third : Held) → Has (with_target held targets) third → (held ≡ third) ⊎ Has targets third
  Has-with_target [] third has = has
  Has-with_target (other ∷ targets) third has = by (comes_before other held) (comes_before held other) (Has-with_target targets third) has
    where
      by : (a b : Bool) → (Has (with_target held targets) third → (held ≡ third) ⊎ Has targets third)
          → Has (if a then other ∷ with_target held targets else (if b then held ∷ other ∷ targets else other ∷ targets)) third
          → (held ≡ third) ⊎ ((other ≡ third) ⊎ Has targets third)
      by true b later (inl same) = inr (inl same)
      by true b later (inr there) = elim (later there) [ inl same ↦ inl same | inr has ↦ inr (inr has) ]
      by false true later has = has
      by false false later has = inr has

  AreAscending-with_target : (targets : List Held) → AreAscending targets → AreAscending (with_target held targets)
  AreAscending-with_target [] are = ((λ other has. absurd has), tt)
  AreAscending-with_target (other ∷ targets) (before, are) =
      by (comes_before other held) (comes_before held other) refl refl (AreAscending-with_target targets are)
    where
      behind : (third : Held) → comes_before other held ≡ true → (held ≡ third) ⊎ Has targets third → comes_before other third ≡ true
      behind third first (inl same) = subst (λ h. comes_before other h ≡ true) same first
      behind third first (inr has) = before third has

      beyond : (third : Held) → comes_before held other ≡ true → (other ≡ third) ⊎ Has targets third → comes_before held third ≡ true
      beyond third second (inl same) = subst (λ h. comes_before held h ≡ true) same second
      beyond third second (inr has) = comes_before-through held other third second (before third has)

      by : (a b : Bool) → comes_before other held ≡ a → comes_before held other ≡ b → AreAscending (with_target held targets)
          → AreAscending (if a then other ∷ with_target held targets else (if b then held ∷ other ∷ targets else other ∷ targets))
      by true b first second later = ((λ third has. behind third first (Has-with_target targets third has)), later)
      by false true first second later = ((λ third has. beyond third second has), (before, are))
      by false false first second later = (before, are)

-- ---- the targets of a list

pub Writes-first : (op : Op) (ops : List Op) (held : Held) → target_of op ≡ held → Writes (op ∷ ops) held
Writes-first op ops held is = (op, (0, omega arith, refl), is)

pub Writes-later : (op : Op) (ops : List Op) (held : Held) → Writes ops held → Writes (op ∷ ops) held
Writes-later op ops held writes = (writes.0, Contains-later op ops writes.0 writes.1, writes.2)

pub Writes-cases : (op : Op) (ops : List Op) (held : Held) → Writes (op ∷ ops) held → (target_of op ≡ held) ⊎ Writes ops held
Writes-cases op ops held (other, (zero, within, is), target) = inl (ap target_of is ∙ target)
Writes-cases op ops held (other, (suc place, within, is), target) = inr (other, (place, omega arith, is), target)

AreAscending-targets_onto : (ops : List Op) (targets : List Held) → AreAscending targets → AreAscending (targets_onto targets ops)
AreAscending-targets_onto [] targets are = are
AreAscending-targets_onto (op ∷ ops) targets are =
    AreAscending-targets_onto ops (with_target (target_of op) targets) (AreAscending-with_target (target_of op) targets are)

targets_onto-Has : (ops : List Op) (targets : List Held) (held : Held) → Has targets held ⊎ Writes ops held
    → Has (targets_onto targets ops) held
targets_onto-Has [] targets held (inl has) = has
targets_onto-Has [] targets held (inr (op, (place, within, is), target)) = absurd (omega arith)
targets_onto-Has (op ∷ ops) targets held has = targets_onto-Has ops (with_target (target_of op) targets) held (by has)
  where
    more : (target_of op ≡ held) ⊎ Writes ops held → Has (with_target (target_of op) targets) held ⊎ Writes ops held
    more (inl is) = inl (with_target-Has (target_of op) targets held (inl is))
    more (inr writes) = inr writes

    by : Has targets held ⊎ Writes (op ∷ ops) held → Has (with_target (target_of op) targets) held ⊎ Writes ops held
    by (inl has) = inl (with_target-Has (target_of op) targets held (inr has))
    by (inr writes) = more (Writes-cases op ops held writes)

Has-targets_onto : (ops : List Op) (targets : List Held) (held : Held) → Has (targets_onto targets ops) held
    → Has targets held ⊎ Writes ops held
Has-targets_onto [] targets held has = inl has
Has-targets_onto (op ∷ ops) targets held has = by (Has-targets_onto ops (with_target (target_of op) targets) held has)
  where
    more : (target_of op ≡ held) ⊎ Has targets held → Has targets held ⊎ Writes (op ∷ ops) held
    more (inl is) = inr (Writes-first op ops held is)
    more (inr has) = inl has

    by : Has (with_target (target_of op) targets) held ⊎ Writes ops held → Has targets held ⊎ Writes (op ∷ ops) held
    by (inl has) = more (Has-with_target (target_of op) targets held has)
    by (inr writes) = inr (Writes-later op ops held writes)

pub AreAscending-targets_of : (ops : List Op) → AreAscending (targets_of ops)
AreAscending-targets_of ops = AreAscending-targets_onto ops [] tt

pub targets_of-Has : (ops : List Op) (held : Held) → Writes ops held → Has (targets_of ops) held
targets_of-Has ops held writes = targets_onto-Has ops [] held (inr writes)

pub Has-targets_of : (ops : List Op) (held : Held) → Has (targets_of ops) held → Writes ops held
Has-targets_of ops held has = elim (Has-targets_onto ops [] held has) [ inl none ↦ absurd none | inr writes ↦ writes ]
