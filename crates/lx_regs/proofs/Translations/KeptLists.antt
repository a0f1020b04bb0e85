-- Lists that are kept by other names do the same to each register that has a name.
use Rattle.std.proofs.Common.{◌≡◌, ◌⊎◌, inl, inr, ℕ, suc, ◌+◌, ◌<◌, List, [], ◌∷◌, length, get_or, Contains, refl, sym, ap, ◌∙◌, subst, arith}
use Rattle.std.specs.Prelude.{◌≢◌}
use Rattle.std.proofs.lemmas.Bool.{cases_eq}
use Rattle.std.proofs.lemmas.List.Elements.{All-contains}
use Rattle.lx_auto.specs.declared.ops.Op.{Op}
use Rattle.lx_auto.specs.declared.ops.Op.TheVariants.{Here}
use Rattle.lx_auto.specs.Effects.{Effect, effect_after, effect_behind, held_by, renamed_effect}
use Rattle.lx_regs.specs.ListRenamings.{AreMembers, IsKept, IsListKept, members_at, names_by}
use Rattle.lx_regs.specs.OrderedOps.{number_of}
use Rattle.lx_regs.proofs.Translations.OrderedOps.{effect_behind-other}

-- what holds at each place before the last one, and there
pub each-more : (P : ℕ → Type 0) (count : ℕ) → ((place : ℕ) → place < count → P place) → P count → (place : ℕ) → place < count + 1
    → P place
each-more P count before last place within = at (cases_eq place count)
  where
    at : (place ≡ count) ⊎ (place ≢ count) → P place
    at (inl same) = subst P (sym same) last
    at (inr apart) = before place (omega (arith, within, apart))

-- some operation of a list writes a register of this number, or what the register holds stays
abbrev WritesAt : List Op → (reg : ℕ) → Type 0
WritesAt ops reg = (place : ℕ) × (place < length ops) × (number_of (get_or ops place (Here 0)) ≡ reg)

written-or : (ops : List Op) (reg : ℕ) → WritesAt ops reg ⊎ ((effect : Effect) → effect_after ops reg effect ≡ effect)
written-or [] reg = inr (λ effect. refl)
written-or (op ∷ ops) reg = first (cases_eq (number_of op) reg) (written-or ops reg)
  where
    first : (number_of op ≡ reg) ⊎ (number_of op ≢ reg)
        → WritesAt ops reg ⊎ ((effect : Effect) → effect_after ops reg effect ≡ effect)
        → WritesAt (op ∷ ops) reg ⊎ ((effect : Effect) → effect_after (op ∷ ops) reg effect ≡ effect)
    first (inl same) later = inl (0, omega arith, same)
    first (inr apart) (inl (place, within, is)) = inl (suc place, omega (arith, within), is)
    first (inr apart) (inr stays) =
        inr (λ effect. stays (effect_behind op reg effect) ∙ effect_behind-other op reg effect (λ same. apart (sym same)))

module _ (names : List ℕ) (members : List (List ℕ)) (bound count : ℕ) (are : AreMembers bound count names members) (ops others : List Op)
    (kept : IsListKept names members ops others) where
  abbrev name_of : ℕ → ℕ
  name_of reg = get_or names reg reg

  -- a register that the first list does not write
  kept-unwritten : (reg : ℕ) → reg < bound → name_of reg < count → ((effect : Effect) → effect_after ops reg effect ≡ effect)
      → WritesAt others (name_of reg) ⊎ ((effect : Effect) → effect_after others (name_of reg) effect ≡ effect)
      → IsKept names ops others reg
  kept-unwritten reg within named stays (inl (place, there, is)) =
      All-contains (IsKept names ops others) (members_at members (number_of (get_or others place (Here 0)))) reg (kept.named place there)
      (subst (λ name. Contains (members_at members name) reg) (sym is) (are.complete reg within named))
  kept-unwritten reg within named stays (inr also) =
      also (held_by (name_of reg)) ∙ ap (renamed_effect (names_by names)) (sym (stays (held_by reg)))

  pub IsKept-all : (reg : ℕ) → reg < bound → name_of reg < count → IsKept names ops others reg
  IsKept-all reg within named = at (written-or ops reg)
    where
      at : WritesAt ops reg ⊎ ((effect : Effect) → effect_after ops reg effect ≡ effect) → IsKept names ops others reg
      at (inl (place, there, is)) = subst (IsKept names ops others) is (kept.written place there)
      at (inr stays) = kept-unwritten reg within named stays (written-or others (name_of reg))
