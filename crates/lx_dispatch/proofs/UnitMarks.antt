-- Units that are seen one by one.
use Rattle.std.proofs.Common.{◌≡◌, ◌≢◌, ◌↔◌, ◌<◌, ◌+◌, ◌∷◌, ◌++◌, ◌∙◌, ℕ, zero, suc, Bool, true, false, List, [], refl, sym, ap, subst, drop, get_or, length, replicate, set}
use Rattle.std.proofs.lemmas.Bool.{false≢true}
use Rattle.std.proofs.lemmas.List.{drop_more, get_or-set_same, get_or-set_other}
use Rattle.std.specs.List.{AllByRecursion}
use Rattle.lx_ccode.specs.Validity.{AreUnitsOnce}
use Rattle.lx_dispatch.specs.UnitSwitches.{AreNew}

-- the unit was not seen
abbrev IsUnseen : List Bool → ℕ → Type 0
IsUnseen seen unit = get_or seen unit false ≡ false

module _ (seen : List Bool) (unit : ℕ) (within : unit < length seen) where
  unseen_from : (other : ℕ) → IsUnseen (set seen unit true) other → (other ≡ unit → ⊥) × IsUnseen seen other
  unseen_from other h =
      let differs : other ≢ unit = λ e. false≢true (sym h ∙ ap (λ at. get_or (set seen unit true) at false) e ∙ get_or-set_same seen unit true false within) in
      (differs, sym (get_or-set_other seen unit other true false differs) ∙ h)

  unseen_to : (other : ℕ) → (other ≡ unit → ⊥) → IsUnseen seen other → IsUnseen (set seen unit true) other
  unseen_to other differs h = get_or-set_other seen unit other true false differs ∙ h

  all_from : (rest : List ℕ) → AllByRecursion (IsUnseen (set seen unit true)) rest → AllByRecursion (λ other. other ≡ unit → ⊥) rest × AllByRecursion (IsUnseen seen) rest
  all_from [] all = (tt, tt)
  all_from (other ∷ rest) all =
      let here = unseen_from other all.0 in
      let more = all_from rest all.1 in ((here.0, more.0), (here.1, more.1))

  all_to : (rest : List ℕ) → AllByRecursion (λ other. other ≡ unit → ⊥) rest → AllByRecursion (IsUnseen seen) rest → AllByRecursion (IsUnseen (set seen unit true)) rest
  all_to [] differ all = tt
  all_to (other ∷ rest) differ all = (unseen_to other differ.0 all.0, all_to rest differ.1 all.1)

  -- a unit that is new, and is marked
  pub AreNew-mark : (rest : List ℕ) → get_or seen unit false ≡ false → AreNew (set seen unit true) rest ↔ AreNew seen (unit ∷ rest)
  AreNew-mark rest new = (
    λ h. let all = all_from rest h.1 in ((all.0, h.0), (new, all.1)),
    λ h. (h.0.1, all_to rest h.0.0 h.1.1),
  )

-- the units from a place on
pub drop-units : (units : List ℕ) (place : ℕ) (more : List ℕ) → place < length units → drop place units ++ more ≡ get_or units place 0 ∷ (drop (place + 1) units ++ more)
drop-units units place more within = ap (λ (l : List ℕ). l ++ more) (drop_more units place 0 within)

-- where nothing was seen, units are new that stand once
pub AreNew-none : (seen : List Bool) (units : List ℕ) → ((unit : ℕ) → get_or seen unit false ≡ false) → AreNew seen units ↔ AreUnitsOnce units
AreNew-none seen units none = (λ h. h.0, λ h. (h, all units)) where
  all : (units : List ℕ) → AllByRecursion (IsUnseen seen) units
  all [] = tt
  all (unit ∷ units) = (none unit, all units)

-- ---- unit by unit

module _ (units : List ℕ) (place : ℕ) (seen initial : List Bool) (within : place < length units)
    (same : (more : List ℕ) → AreNew seen (drop place units ++ more) ↔ AreNew initial (units ++ more)) where
  -- one more unit is new, and is marked
  pub marks-next : (unit : ℕ) (marked : List Bool) → unit ≡ get_or units place 0 → unit < length seen → get_or seen unit false ≡ false → marked ≡ set seen unit true
      → (more : List ℕ) → AreNew marked (drop (place + 1) units ++ more) ↔ AreNew initial (units ++ more)
  marks-next unit marked is below new marked_is more =
      let rest : List ℕ = drop (place + 1) units ++ more in
      let whole : drop place units ++ more ≡ unit ∷ rest = drop-units units place more within ∙ ap (λ (u : ℕ). u ∷ rest) (sym is) in
      let here : AreNew seen (unit ∷ rest) ↔ AreNew initial (units ++ more) = subst (λ (l : List ℕ). AreNew seen l ↔ AreNew initial (units ++ more)) whole (same more) in
      let step : AreNew marked rest ↔ AreNew seen (unit ∷ rest) =
      subst (λ (m : List Bool). AreNew m rest ↔ AreNew seen (unit ∷ rest)) (sym marked_is) (AreNew-mark seen unit below rest new) in
      (λ h. here.0 (step.0 h), λ h. step.1 (here.1 h))

  -- one that was seen is not new
  pub marks-none : (unit : ℕ) → unit ≡ get_or units place 0 → get_or seen unit false ≡ true → (more : List ℕ) → AreNew initial (units ++ more) → ⊥
  marks-none unit is old more h =
      let rest : List ℕ = drop (place + 1) units ++ more in
      let whole : drop place units ++ more ≡ unit ∷ rest = drop-units units place more within ∙ ap (λ (u : ℕ). u ∷ rest) (sym is) in
      let here : AreNew seen (unit ∷ rest) = subst (λ (l : List ℕ). AreNew seen l) whole ((same more).1 h) in
      false≢true (sym here.1.0 ∙ old)

unseen-replicate : (count unit : ℕ) → get_or (replicate count false) unit false ≡ false
unseen-replicate zero unit = refl
unseen-replicate (suc count) zero = refl
unseen-replicate (suc count) (suc unit) = unseen-replicate count unit

-- before the first unit none was seen
pub unseen-start : (unit : ℕ) → get_or (replicate 256 false) unit false ≡ false
unseen-start unit = unseen-replicate 256 unit
