-- Targets that go on by candidates, one by one: so do the first to each place.
use Rattle.std.proofs.Common.{sym, ap, ◌∙◌, subst, inl, inr}
use Rattle.std.proofs.lemmas.Bool.{and_from, and_parts, eqb-true, or_cases}
use Rattle.std.specs.List.{cons_option}
use Rattle.std.specs.Prelude.{◌≡◌, ◌⊎◌, ℕ, suc, List, [], ◌∷◌, map, filter_map, Some, None, Bool, true, false, ◌||◌, nat_eq, if◌then◌else◌, refl}
use Rattle.std.proofs.Common.{eq-eqb}
use Rattle.lx_regex.specs.Term.{Term}
use Rattle.lx_tnfa.specs.DepthFirst.{IsIn, decide_in}
use Rattle.lx_tnfa.specs.Tnfa.{Tnfa}
use Rattle.lx_tnfa.specs.declared.closure.Reach.{Reach}
use Rattle.lx_tnfa.specs.declared.places.Place.{Place}
use Rattle.lx_tnfa.proofs.Searching.SearchBasics.{Each}
use Rattle.lx_tdfa.specs.Kernels.{Candidate, first_of_each, unless_seen}
use Rattle.lx_tdfa.specs.Steps.{IsInLeaf, Step, first_steps, index_if, indices_from, is_among, is_place, step_on}
use Rattle.lx_tdfa.specs.Values.{value_at}
use Rattle.lx_tdfa.proofs.Walks.ClosureSearches.{AreAlike, IsSegment, IsSource, number_of}
use Rattle.lx_posix.specs.Reaching.{AreByWays, IsByWay}
use Rattle.lx_posix.specs.declared.search.Found.{Found}

place_same : (place other : Place) → is_place place other ≡ true → place ≡ other
place_same place other e =
    let both = and_parts (nat_eq place.part other.part) (nat_eq place.rest.0 other.rest.0) e in
    let part = eqb-true place.part other.part both.0 in
    let rest = eqb-true place.rest.0 other.rest.0 both.1 in
    λ i. record { part = part i; rest = record { 0 = rest i } }

place_self : (place : Place) → is_place place place ≡ true
place_self place =
    and_from (nat_eq place.part place.part) (nat_eq place.rest.0 place.rest.0) (eq-eqb place.part place.part refl)
    (eq-eqb place.rest.0 place.rest.0 refl)

or_true : (b : Bool) → (b || true) ≡ true
or_true true = refl
or_true false = refl

module _ (tnfa : Tnfa) (rules : List Term) (first : Bool) (numbers : List ℕ) (unit : ℕ) (founds : List Found) (origins : List ℕ)
    (apart : (place other : Place) → IsInLeaf tnfa place → IsInLeaf tnfa other → number_of tnfa place ≡ number_of tnfa other
    → place ≡ other) where
  -- the step by the target with this index is that of the candidate
  pub record IsAlike (index : ℕ) (candidate : Candidate) (step : Step) : Type 0 where
    pub to : candidate.to ≡ number_of tnfa step.to
    pub source : IsSource first candidate.from step.from
    pub segment : IsSegment tnfa rules (value_at 0 numbers candidate.from) unit candidate.key step.events
    pub in_leaf : IsInLeaf tnfa step.to
    pub way : IsByWay tnfa founds origins unit candidate index

  -- targets, of which the first has this index, go on over the unit by these candidates
  pub data Follow : (index : ℕ) → List Reach → List Candidate → Type 0 where
    none : (index : ℕ) → Follow index [] []
    passed : (index : ℕ) (reach : Reach) (reaches : List Reach) (candidates : List Candidate) → step_on tnfa unit reach ≡ None
        → Follow (suc index) reaches candidates → Follow index (reach ∷ reaches) candidates
    taken : (index : ℕ) (reach : Reach) (reaches : List Reach) (candidate : Candidate) (candidates : List Candidate) (step : Step)
        → step_on tnfa unit reach ≡ Some step → IsAlike index candidate step → Follow (suc index) reaches candidates
        → Follow index (reach ∷ reaches) (candidate ∷ candidates)

  -- candidates, the steps that they are, and the indices of the targets by which these are
  pub record Firsts (candidates : List Candidate) (steps : List Step) (indices : List ℕ) : Type 0 where
    pub alike : AreAlike tnfa rules first numbers unit candidates steps
    pub ways : AreByWays tnfa founds origins unit candidates indices
    pub in_leaves : Each (λ (step : Step). IsInLeaf tnfa step.to) steps

  -- a number was seen where its place was
  number_seen : (seen : List Place) (place : Place) → is_among seen place ≡ true → IsIn (map (number_of tnfa) seen) (number_of tnfa place)
  number_seen [] place e = cc
  number_seen (other ∷ seen) place e = at (or_cases (is_place other place) (is_among seen place) e) (number_seen seen place)
    where
      at : (is_place other place ≡ true) ⊎ (is_among seen place ≡ true)
          → (is_among seen place ≡ true → IsIn (map (number_of tnfa) seen) (number_of tnfa place))
          → (number_of tnfa other ≡ number_of tnfa place) ⊎ IsIn (map (number_of tnfa) seen) (number_of tnfa place)
      at (inl same) later = inl (ap (number_of tnfa) (place_same other place same))
      at (inr among) later = inr (later among)

  place_seen : (seen : List Place) (place : Place) → Each (IsInLeaf tnfa) seen → IsInLeaf tnfa place
      → IsIn (map (number_of tnfa) seen) (number_of tnfa place) → is_among seen place ≡ true
  place_seen [] place all in_leaf m = absurd m
  place_seen (other ∷ seen) place all in_leaf (inl same) =
      let is = apart other place all.0 in_leaf same in
      ap (λ (p : Place). is_place p place || is_among seen place) is ∙ ap (λ b. b || is_among seen place) (place_self place)
  place_seen (other ∷ seen) place all in_leaf (inr m) =
      ap (λ b. is_place other place || b) (place_seen seen place all.1 in_leaf m) ∙ or_true (is_place other place)

  place_new : (seen : List Place) (place : Place) → (IsIn (map (number_of tnfa) seen) (number_of tnfa place) → ⊥)
      → is_among seen place ≡ false
  place_new seen place out = at (is_among seen place) refl
    where
      at : (b : Bool) → is_among seen place ≡ b → b ≡ false
      at true e = absurd (out (number_seen seen place e))
      at false e = refl

  -- one more candidate, by whether its place was seen
  module _ (seen : List Place) (in_leaves : Each (IsInLeaf tnfa) seen) (index : ℕ) (candidate : Candidate) (candidates : List Candidate)
      (step : Step) (steps : List Step) (others : List Place → List ℕ) (is : IsAlike index candidate step)
      (more : (seen : List Place) → Each (IsInLeaf tnfa) seen
      → Firsts (first_of_each (map (number_of tnfa) seen) candidates) (first_steps seen steps) (others seen)) where
    kept_more : Firsts (candidate ∷ first_of_each (candidate.to ∷ map (number_of tnfa) seen) candidates)
        (step ∷ first_steps (step.to ∷ seen) steps)
        (index ∷ others (step.to ∷ seen))
    kept_more =
        let rest = more (step.to ∷ seen) (is.in_leaf, in_leaves) in
        let later =
        subst (λ n. Firsts (first_of_each (n ∷ map (number_of tnfa) seen) candidates) (first_steps (step.to ∷ seen) steps)
        (others (step.to ∷ seen)))
        (sym is.to) rest in
        record {
          alike = (is.to, is.source, is.segment, later.alike);
          ways = (is.way, later.ways);
          in_leaves = (is.in_leaf, later.in_leaves);
        }

    -- the steps and their indices, by whether the place was seen
    abbrev steps_if : Bool → List Step
    steps_if among = if among then first_steps seen steps else step ∷ first_steps (step.to ∷ seen) steps

    abbrev indices_if : Bool → List ℕ
    indices_if among = if among then others seen else index ∷ others (step.to ∷ seen)

    abbrev skipped : List Candidate
    skipped = first_of_each (map (number_of tnfa) seen) candidates

    abbrev kept : List Candidate
    kept = candidate ∷ first_of_each (candidate.to ∷ map (number_of tnfa) seen) candidates

    firsts-taken : Firsts (first_of_each (map (number_of tnfa) seen) (candidate ∷ candidates)) (first_steps seen (step ∷ steps))
        (index_if (Some step) seen index others)
    firsts-taken = at (decide_in (map (number_of tnfa) seen) candidate.to)
      where
        at : (d : Dec (IsIn (map (number_of tnfa) seen) candidate.to))
            → Firsts (unless_seen d skipped kept) (steps_if (is_among seen step.to)) (indices_if (is_among seen step.to))
        at (yes m) =
            let among = place_seen seen step.to in_leaves is.in_leaf (subst (IsIn (map (number_of tnfa) seen)) is.to m) in
            subst (λ b. Firsts skipped (steps_if b) (indices_if b)) (sym among) (more seen in_leaves)
        at (no out) =
            let new = place_new seen step.to (λ m. out (subst (IsIn (map (number_of tnfa) seen)) (sym is.to) m)) in
            subst (λ b. Firsts kept (steps_if b) (indices_if b)) (sym new) kept_more

  pub follow_firsts : {index : ℕ} {reaches : List Reach} {candidates : List Candidate} → Follow index reaches candidates →
      (seen : List Place)
      → Each (IsInLeaf tnfa) seen
      → Firsts (first_of_each (map (number_of tnfa) seen) candidates) (first_steps seen (filter_map (step_on tnfa unit) reaches))
      (indices_from tnfa unit seen index reaches)
  follow_firsts (none index) seen in_leaves = record { alike = tt; ways = tt; in_leaves = tt }
  follow_firsts (passed index reach reaches candidates e follow) seen in_leaves =
      subst (λ o. Firsts (first_of_each (map (number_of tnfa) seen) candidates)
      (first_steps seen (cons_option o (filter_map (step_on tnfa unit) reaches)))
      (index_if o seen index (λ seen. indices_from tnfa unit seen (suc index) reaches)))
      (sym e) (follow_firsts follow seen in_leaves)
  follow_firsts (taken index reach reaches candidate candidates step e is follow) seen in_leaves =
      subst (λ o. Firsts (first_of_each (map (number_of tnfa) seen) (candidate ∷ candidates))
      (first_steps seen (cons_option o (filter_map (step_on tnfa unit) reaches)))
      (index_if o seen index (λ seen. indices_from tnfa unit seen (suc index) reaches)))
      (sym e)
      (firsts-taken seen in_leaves index candidate candidates step (filter_map (step_on tnfa unit) reaches)
      (λ seen. indices_from tnfa unit seen (suc index) reaches) is
      (λ seen all. follow_firsts follow seen all))
