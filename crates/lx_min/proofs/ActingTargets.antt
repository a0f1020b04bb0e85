-- Those targets of a list to which something is done.
use Rattle.std.proofs.Common.{◌≡◌, List, [], ◌∷◌, ◌++◌, refl, sym, ap, ◌∙◌, inl, inr}
use Rattle.std.specs.Prelude.{◌⊎◌}
use Rattle.std.specs.List.{flat_map}
use Rattle.lx_auto.specs.declared.automaton.Held.{Held}
use Rattle.lx_auto.specs.declared.ops.Op.{Op}
use Rattle.lx_min.proofs.Targets.{AreAscending, Has}

-- a target before others, if some operation is done to it
abbrev before_others : (done : List Op) → Held → List Held → List Held
before_others [] target targets = targets
before_others (op ∷ done) target targets = target ∷ targets

-- by what is done to each
module _ (done : Held → List Op) where
  abbrev pub acting : List Held → List Held
  acting [] = []
  acting (target ∷ targets) = before_others (done target) target (acting targets)

  pub flat_map-acting : (targets : List Held) → flat_map done (acting targets) ≡ flat_map done targets
  flat_map-acting [] = refl
  flat_map-acting (target ∷ targets) = by (done target) refl (flat_map-acting targets)
    where
      by : (list : List Op) → done target ≡ list → flat_map done (acting targets) ≡ flat_map done targets
          → flat_map done (before_others list target (acting targets)) ≡ done target ++ flat_map done targets
      by [] is rest = rest ∙ ap (λ list. list ++ flat_map done targets) (sym is)
      by (op ∷ list) is rest = ap (λ others. done target ++ others) rest

  acting-Has : (targets : List Held) (held : Held) → Has (acting targets) held → Has targets held
  acting-Has [] held has = has
  acting-Has (target ∷ targets) held has = by (done target) (acting-Has targets held) has
    where
      by : (list : List Op) → (Has (acting targets) held → Has targets held) → Has (before_others list target (acting targets)) held
          → (target ≡ held) ⊎ Has targets held
      by [] later there = inr (later there)
      by (op ∷ list) later (inl same) = inl same
      by (op ∷ list) later (inr there) = inr (later there)

  pub acting-acts : (targets : List Held) (held : Held) → Has (acting targets) held → done held ≡ [] → ⊥
  acting-acts [] held has none = absurd has
  acting-acts (target ∷ targets) held has none = by (done target) refl (λ there. acting-acts targets held there none) has
    where
      by : (list : List Op) → done target ≡ list → (Has (acting targets) held → ⊥) → Has (before_others list target (acting targets)) held
          → ⊥
      by [] is later there = later there
      by (op ∷ list) is later (inl same) = let both : op ∷ list ≡ [] = sym is ∙ ap done same ∙ none in cc both
      by (op ∷ list) is later (inr there) = later there

  pub Has-acting : (targets : List Held) (held : Held) → Has targets held → (done held ≡ [] → ⊥) → Has (acting targets) held
  Has-acting [] held has acts = has
  Has-acting (target ∷ targets) held has acts = by (done target) refl (λ there. Has-acting targets held there acts) has
    where
      by : (list : List Op) → done target ≡ list → (Has targets held → Has (acting targets) held) → (target ≡ held) ⊎ Has targets held
          → Has (before_others list target (acting targets)) held
      by [] is later (inl same) = absurd (acts (ap done (sym same) ∙ is))
      by [] is later (inr there) = later there
      by (op ∷ list) is later (inl same) = inl same
      by (op ∷ list) is later (inr there) = inr (later there)

  pub AreAscending-acting : (targets : List Held) → AreAscending targets → AreAscending (acting targets)
  AreAscending-acting [] are = are
  AreAscending-acting (target ∷ targets) (before, are) = by (done target) (AreAscending-acting targets are)
    where
      by : (list : List Op) → AreAscending (acting targets) → AreAscending (before_others list target (acting targets))
      by [] later = later
      by (op ∷ list) later = ((λ other has. before other (acting-Has targets other has)), later)
