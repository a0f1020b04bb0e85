-- Steps and endings stay in the rules of the places that they are from.
use Rattle.std.proofs.Common.{ap, sym, ◌∙◌, subst, arith}
use Rattle.std.proofs.lemmas.List.Elements.{All-head, All-tail}
use Rattle.std.specs.List.{cons_option}
use Rattle.std.specs.Prelude.{◌≡◌, ℕ, zero, suc, ◌*◌, ◌/◌, ◌<◌, List, [], ◌∷◌, map, filter_map, length, Option, Some, None, All, Contains, slice_get, slice_index, refl}
use Rattle.lx_base.specs.declared.settings.Enc.{Enc}
use Rattle.lx_encode.specs.Graph.{numbered}
use Rattle.lx_regex.specs.Automaton.{automaton}
use Rattle.lx_regex.specs.Pattern.{Pattern, terms_of, with_terms}
use Rattle.lx_tnfa.specs.Closure.{Arrival, IsClosureOf, IsPlainWalk}
use Rattle.lx_tnfa.specs.Tnfa.{IsTnfaOf, Tnfa, place_after, rest_after, state_at}
use Rattle.lx_tnfa.specs.declared.closure.Reach.{Reach}
use Rattle.lx_tnfa.specs.declared.closure.Stop.TheVariants.{AtTarget}
use Rattle.lx_tnfa.specs.declared.closure.Target.{Target}
use Rattle.lx_tnfa.specs.declared.closure.Target.TheVariants.{End, Leaf}
use Rattle.lx_tnfa.specs.declared.places.Place.{Place}
use Rattle.lx_tnfa.proofs.Construction.NthLists.{mapped_from}
use Rattle.lx_tnfa.proofs.Searching.SearchBasics.{Each}
use Rattle.lx_tnfa.proofs.Searching.SearchPaths.{All-from_each, Each-from_all}
use Rattle.lx_tdfa.specs.Steps.{Ending, IsInLeaf, Step, ending_at, first_ending, next_steps, step_on, step_to}
use Rattle.lx_tdfa.proofs.Walks.NumbersApart.{held_length}
use Rattle.lx_tdfa.proofs.Rules.RuleStates.{IsPartOf, pattern_at, rule_of_state}
use Rattle.lx_tdfa.proofs.Rules.RuleWalks.{Stays, owned, plain_stays}
use Rattle.lx_tdfa.proofs.Rules.StepPlaces.{first_steps-each}

-- a target in a rule, by the number of the rule
abbrev OwnsTarget : Tnfa → (owner : ℕ) → Target → Type 0
OwnsTarget tnfa owner (Leaf place) = owner ≡ slice_index tnfa.owners place.part
OwnsTarget tnfa owner (End rule) = owner ≡ rule

-- it is in the rule of the place from which it is reached
abbrev IsKept : Tnfa → List Place → (from : ℕ) → Target → Type 0
IsKept tnfa kernel from to =
    (place : Place) × (slice_get kernel from ≡ Some place) × OwnsTarget tnfa (slice_index tnfa.owners place.part) to

abbrev IsStepKept : Tnfa → List Place → Step → Type 0
IsStepKept tnfa kernel step =
    (place : Place) × (slice_get kernel step.from ≡ Some place)
    × (slice_index tnfa.owners place.part ≡ slice_index tnfa.owners step.to.part)

place_in_leaf : (tnfa : Tnfa) (kernel : List Place) (index : ℕ) (place : Place) → All (IsInLeaf tnfa) kernel → slice_get kernel index ≡ Some place
    → IsInLeaf tnfa place
place_in_leaf tnfa [] index place are e = cc
place_in_leaf tnfa (first ∷ kernel) zero place are e =
    let same : first ≡ place = cc in subst (IsInLeaf tnfa) same (All-head (IsInLeaf tnfa) first kernel are)
place_in_leaf tnfa (first ∷ kernel) (suc index) place are e =
    place_in_leaf tnfa kernel index place (All-tail (IsInLeaf tnfa) first kernel are) e

module _ (enc : Enc) (patterns : List Pattern) (tnfa : Tnfa) (of : IsTnfaOf enc patterns tnfa) where
  -- a place in a leaf is in a rule
  record OwnerOf (part : ℕ) : Type 0 where
    index : ℕ
    pattern : Pattern
    here : slice_get (with_terms patterns) index ≡ Some pattern
    at : slice_get (terms_of patterns) index ≡ Some pattern.term
    own : IsPartOf (terms_of patterns) index pattern.term part

  owner_of : (place : Place) → IsInLeaf tnfa place → OwnerOf place.part
  owner_of place is =
      let count = held_length tnfa.classes (automaton (terms_of patterns)) tnfa.states of.states in
      let part : 2 * place.part < length tnfa.states = is.0.part in
      let some : 0 < place.part = is.1 in
      let lt : 2 * place.part < length (automaton (terms_of patterns)) = subst (λ n. 2 * place.part < n) (sym count) part in
      let rule = rule_of_state (terms_of patterns) (2 * place.part) (omega arith) lt in
      let found = pattern_at (with_terms patterns) rule.index rule.term rule.at in
      let half : 2 * place.part / 2 ≡ place.part = omega arith in record {
        index = rule.index;
        pattern = found.0;
        here = found.1;
        at = rule.at ∙ ap Some (sym found.2);
        own =
            subst (IsPartOf (terms_of patterns) rule.index found.0.term) half
            (subst (λ e. IsPartOf (terms_of patterns) rule.index e (2 * place.part / 2)) (sym found.2) rule.within);
      }

  arrival_kept : (kernel : List Place) (arrival : Arrival) → All (IsInLeaf tnfa) kernel → IsPlainWalk tnfa kernel arrival
      → IsKept tnfa kernel arrival.from arrival.to
  arrival_kept kernel arrival are plain =
      let is = place_in_leaf tnfa kernel arrival.from plain.place are plain.begins in
      let owner = owner_of plain.place is in (
        plain.place,
        plain.begins,
        by owner arrival.to
            (plain_stays enc patterns tnfa of owner.index owner.pattern owner.here owner.at kernel arrival plain is owner.own),
      )
    where
      by : (owner : OwnerOf plain.place.part) (to : Target) → Stays enc patterns tnfa of owner.index owner.pattern owner.here owner.at (AtTarget to)
          → OwnsTarget tnfa (slice_index tnfa.owners plain.place.part) to
      by owner (Leaf place) stays =
          owned enc patterns tnfa of owner.index owner.pattern owner.here owner.at plain.place.part owner.own
          ∙ sym (owned enc patterns tnfa of owner.index owner.pattern owner.here owner.at place.part stays)
      by owner (End rule) stays =
          owned enc patterns tnfa of owner.index owner.pattern owner.here owner.at plain.place.part owner.own ∙ sym stays

  -- what a closure reaches is in the rules of its places
  reaches_kept : (kernel : List Place) (reaches : List Reach) → All (IsInLeaf tnfa) kernel → IsClosureOf tnfa kernel reaches
      → Each (λ (reach : Reach). IsKept tnfa kernel reach.from reach.to) reaches
  reaches_kept kernel reaches are is =
      subst (Each (λ (reach : Reach). IsKept tnfa kernel reach.from reach.to)) (sym is.2)
      (each is.0 (Each-from_all (IsPlainWalk tnfa kernel) is.0 is.1.plain))
    where
      each : (arrivals : List Arrival) → Each (IsPlainWalk tnfa kernel) arrivals
          → Each (λ (reach : Reach). IsKept tnfa kernel reach.from reach.to)
          (map (λ (arrival : Arrival). record { to = arrival.to; events = arrival.events; from = arrival.from }) arrivals)
      each [] plain = tt
      each (arrival ∷ arrivals) plain = (arrival_kept kernel arrival are plain.0, each arrivals plain.1)

  step_kept : (kernel : List Place) (unit : ℕ) (reach : Reach) (to : Target) (step : Step) → IsKept tnfa kernel reach.from to
      → step_to tnfa unit reach to ≡ Some step → IsStepKept tnfa kernel step
  step_kept kernel unit reach (Leaf place) step kept e =
      let found = mapped_from (λ (to : Place). record { from = reach.from; events = reach.events; to = to }) (place_after tnfa place unit) step e in
      let after =
      mapped_from (λ rest. record { part = place.part; rest = numbered rest }) (rest_after tnfa.classes (state_at tnfa place) place.rest.0 unit)
      found.0 found.1 in (
        kept.0,
        ap (slice_get kernel) (sym (ap (λ (s : Step). s.from) found.2)) ∙ kept.1,
        kept.2 ∙ ap (λ (p : Place). slice_index tnfa.owners p.part) after.2 ∙ ap (λ (s : Step). slice_index tnfa.owners s.to.part) found.2,
      )
  step_kept kernel unit reach (End rule) step kept e = cc

  steps_kept : (kernel : List Place) (unit : ℕ) (reaches : List Reach) → Each (λ (reach : Reach). IsKept tnfa kernel reach.from reach.to) reaches
      → Each (IsStepKept tnfa kernel) (filter_map (step_on tnfa unit) reaches)
  steps_kept kernel unit [] kept = tt
  steps_kept kernel unit (reach ∷ reaches) kept = by (step_on tnfa unit reach) refl (steps_kept kernel unit reaches kept.1)
    where
      by : (o : Option Step) → step_on tnfa unit reach ≡ o → Each (IsStepKept tnfa kernel) (filter_map (step_on tnfa unit) reaches)
          → Each (IsStepKept tnfa kernel) (cons_option o (filter_map (step_on tnfa unit) reaches))
      by None e later = later
      by (Some step) e later = (step_kept kernel unit reach reach.to step kept.0 e, later)

  -- a step leads to a place of the same rule
  pub next_steps-kept : (kernel : List Place) (reaches : List Reach) (unit : ℕ) (step : Step) → All (IsInLeaf tnfa) kernel
      → IsClosureOf tnfa kernel reaches → Contains (next_steps tnfa unit reaches) step
      → (place : Place) × (slice_get kernel step.from ≡ Some place)
      × (slice_index tnfa.owners place.part ≡ slice_index tnfa.owners step.to.part)
  next_steps-kept kernel reaches unit step are is has =
      subst (IsStepKept tnfa kernel) has.2
      (All-from_each (IsStepKept tnfa kernel) (next_steps tnfa unit reaches)
      (first_steps-each (IsStepKept tnfa kernel) [] (filter_map (step_on tnfa unit) reaches)
      (steps_kept kernel unit reaches (reaches_kept kernel reaches are is))) has.0 step has.1)

  -- and an ending is that of the rule of its place
  pub first_ending-kept : (kernel : List Place) (reaches : List Reach) (ending : Ending) → All (IsInLeaf tnfa) kernel
      → IsClosureOf tnfa kernel reaches → first_ending reaches ≡ Some ending
      → (place : Place) × (slice_get kernel ending.from ≡ Some place) × (slice_index tnfa.owners place.part ≡ ending.rule)
  first_ending-kept kernel reaches ending are is e = by_all reaches (reaches_kept kernel reaches are is) e
    where
      by_one : (reach : Reach) (to : Target) (others : Option Ending) → IsKept tnfa kernel reach.from to
          → (others ≡ Some ending
          → (place : Place) × (slice_get kernel ending.from ≡ Some place) × (slice_index tnfa.owners place.part ≡ ending.rule))
          → ending_at reach to others ≡ Some ending
          → (place : Place) × (slice_get kernel ending.from ≡ Some place) × (slice_index tnfa.owners place.part ≡ ending.rule)
      by_one reach (Leaf place) others kept later e = later e
      by_one reach (End rule) others kept later e =
          let same : record { rule = rule; from = reach.from; events = reach.events } ≡ ending = cc in
          (kept.0, ap (slice_get kernel) (sym (ap (λ (x : Ending). x.from) same)) ∙ kept.1, kept.2 ∙ ap (λ (x : Ending). x.rule) same)

      by_all : (reaches : List Reach) → Each (λ (reach : Reach). IsKept tnfa kernel reach.from reach.to) reaches
          → first_ending reaches ≡ Some ending
          → (place : Place) × (slice_get kernel ending.from ≡ Some place) × (slice_index tnfa.owners place.part ≡ ending.rule)
      by_all [] kept e = cc
      by_all (reach ∷ reaches) kept e = by_one reach reach.to (first_ending reaches) kept.0 (λ e. by_all reaches kept.1 e) e
