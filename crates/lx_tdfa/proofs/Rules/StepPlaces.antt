-- What closures of places reach are places, and steps over a unit lead to places in leaves.
use Rattle.std.proofs.Common.{ap, sym, ◌∙◌, subst, arith}
use Rattle.std.specs.Prelude.{◌≡◌, ℕ, zero, suc, ◌+◌, ◌*◌, ◌<◌, List, [], ◌∷◌, map, filter_map, length, Option, Some, None, Bool, true, false, nat_eq, if◌then◌else◌, All, slice_get, refl}
use Rattle.std.proofs.lemmas.List.Elements.{All-head, All-tail}
use Rattle.std.specs.List.{cons_option}
use Rattle.lx_base.specs.declared.settings.Enc.{Enc}
use Rattle.lx_encode.specs.Graph.{numbered}
use Rattle.lx_encode.specs.Table.{row_of}
use Rattle.lx_encode.specs.declared.runs.Run.{Run}
use Rattle.lx_regex.specs.Automaton.{automaton}
use Rattle.lx_regex.specs.Pattern.{Pattern, terms_of}
use Rattle.lx_tnfa.specs.Classes.{AreClasses}
use Rattle.lx_tnfa.specs.Closure as closure
use Rattle.lx_tnfa.specs.Closure.{AllPlaces, Arrival, IsClosureOf, IsPlainWalk, IsTarget, IsTargetAt, IsWalk, LeadToTargets, beginning_at, beginning_of, behind_or_at, steps_at, steps_from}
use Rattle.lx_tnfa.specs.Live.{state_of}
use Rattle.lx_tnfa.specs.Rows.{RepresentEach}
use Rattle.lx_tnfa.specs.Tnfa.{IsPlace, IsRest, IsTnfaOf, Tnfa, place_after, rest_after, rows_at, state_at}
use Rattle.lx_tnfa.specs.declared.closure.Reach.{Reach}
use Rattle.lx_tnfa.specs.declared.closure.Stop.{Stop}
use Rattle.lx_tnfa.specs.declared.closure.Stop.TheVariants.{AtState, AtTarget}
use Rattle.lx_tnfa.specs.declared.closure.Target.{Target}
use Rattle.lx_tnfa.specs.declared.closure.Target.TheVariants.{End, Leaf}
use Rattle.lx_tnfa.specs.declared.places.Place.{Place}
use Rattle.lx_tnfa.specs.declared.states.Event.{Event}
use Rattle.lx_tnfa.specs.declared.states.State.{State}
use Rattle.lx_tnfa.specs.declared.states.State.TheVariants.{AnyUnit, Class, Moves}
use Rattle.lx_tnfa.proofs.Leaves.FormedLeaves.{automaton_formed, steps_lead_of}
use Rattle.lx_tnfa.proofs.Construction.HeldStates.{moves_same}
use Rattle.lx_tnfa.proofs.Construction.NthLists.{mapped_from}
use Rattle.lx_tnfa.proofs.Leaves.RestPlaces.{StepsStay, rest_stays, steps_stay}
use Rattle.lx_tnfa.proofs.Searching.SearchBasics.{Each}
use Rattle.lx_tnfa.proofs.Searching.SearchPaths.{All-from_each, Each-from_all}
use Rattle.lx_tdfa.specs.Steps.{IsInLeaf, Step, first_steps, is_among, next_steps, start_place, step_on, step_to}

pub first_steps-each : (P : Step → Type 0) (seen : List Place) (steps : List Step) → Each P steps → Each P (first_steps seen steps)
first_steps-each P seen [] each = tt
first_steps-each P seen (step ∷ steps) each =
    at (is_among seen step.to) (first_steps-each P seen steps each.1) (first_steps-each P (step.to ∷ seen) steps each.1)
  where
    at : (b : Bool) → Each P (first_steps seen steps) → Each P (first_steps (step.to ∷ seen) steps)
        → Each P (if b then first_steps seen steps else step ∷ first_steps (step.to ∷ seen) steps)
    at true skipped kept = skipped
    at false skipped kept = (each.0, kept)

-- a walk from a place begins at a target, if at none of the states
begins_at_target : (tnfa : Tnfa) (place : Place) → IsPlace tnfa place → IsTargetAt tnfa (beginning_of tnfa place)
begins_at_target tnfa place is = at (state_at tnfa place)
  where
    behind : (runs : List Run) → IsTargetAt tnfa (behind_or_at runs place)
    behind [] = tt
    behind (run ∷ runs) = is

    unit_at : (done : Bool) → IsTargetAt tnfa (if done then AtState (2 * place.part + 1) else AtTarget (Leaf place))
    unit_at true = tt
    unit_at false = is

    at : (state : State) → IsTargetAt tnfa (beginning_at tnfa.classes state place)
    at (Moves ways) = tt
    at (Class number) = behind (row_of (rows_at tnfa.classes number) place.rest.0)
    at AnyUnit = unit_at (nat_eq place.rest.0 0)

lead_at : (tnfa : Tnfa) (steps : List closure.Step) (index : ℕ) (step : closure.Step) → LeadToTargets tnfa steps → slice_get steps index ≡ Some step
    → IsTargetAt tnfa step.to
lead_at tnfa [] index step lead e = cc
lead_at tnfa (first ∷ steps) zero step lead e =
    let same : first ≡ step = cc in subst (λ (s : closure.Step). IsTargetAt tnfa s.to) same lead.0
lead_at tnfa (first ∷ steps) (suc index) step lead e = lead_at tnfa steps index step lead.1 e

module _ (tnfa : Tnfa) (leads : (number : ℕ) → LeadToTargets tnfa (steps_at tnfa number (state_of tnfa.states number))) where
  stop_leads : (stop : Stop) → LeadToTargets tnfa (steps_from tnfa stop)
  stop_leads (AtState number) = leads number
  stop_leads (AtTarget target) = tt

  walk_target : (choices : List ℕ) (from : Stop) (visited : List Stop) (events : List Event) (to : Stop) → IsTargetAt tnfa from
      → IsWalk tnfa from choices visited events to → IsTargetAt tnfa to
  walk_target [] from visited events to is walk = subst (IsTargetAt tnfa) walk.2 is
  walk_target (choice ∷ choices) from visited events to is walk =
      walk_target choices walk.0.to walk.1 walk.2 to (lead_at tnfa (steps_from tnfa from) choice walk.0 (stop_leads from) walk.3) walk.6

  arrival_target : (places : List Place) (arrival : Arrival) → All (IsPlace tnfa) places → IsPlainWalk tnfa places arrival
      → IsTarget tnfa arrival.to
  arrival_target places arrival are plain =
      walk_target arrival.choices (beginning_of tnfa plain.place) plain.visited arrival.events (AtTarget arrival.to)
      (begins_at_target tnfa plain.place (found places arrival.from plain.place are plain.begins)) plain.walk
    where
      found : (places : List Place) (index : ℕ) (place : Place) → All (IsPlace tnfa) places → slice_get places index ≡ Some place
          → IsPlace tnfa place
      found [] index place are e = cc
      found (first ∷ places) zero place are e =
          let same : first ≡ place = cc in subst (IsPlace tnfa) same (All-head (IsPlace tnfa) first places are)
      found (first ∷ places) (suc index) place are e = found places index place (All-tail (IsPlace tnfa) first places are) e

module _ (enc : Enc) (patterns : List Pattern) (tnfa : Tnfa) (of : IsTnfaOf enc patterns tnfa) where
  classes_stay : StepsStay tnfa.classes
  classes_stay = steps_stay enc tnfa.classes of.classes

  leads_of : (number : ℕ) → LeadToTargets tnfa (steps_at tnfa number (state_of tnfa.states number))
  leads_of =
      steps_lead_of tnfa tnfa refl
      (automaton_formed tnfa.enc tnfa.classes (terms_of patterns) tnfa.states of.states
      (subst (λ e. AreClasses e tnfa.classes) (sym of.enc) of.classes))

  -- what a closure of places reaches are places
  pub closure_places : (kernel : List Place) (reaches : List Reach) → All (IsPlace tnfa) kernel → IsClosureOf tnfa kernel reaches
      → AllPlaces tnfa reaches
  closure_places kernel reaches are is =
      subst (AllPlaces tnfa) (sym is.2)
      (All-from_each (λ (reach : Reach). IsTarget tnfa reach.to)
      (map (λ (arrival : Arrival). record { to = arrival.to; events = arrival.events; from = arrival.from }) is.0)
      (each is.0 (Each-from_all (IsPlainWalk tnfa kernel) is.0 is.1.plain)))
    where
      each : (arrivals : List Arrival) → Each (IsPlainWalk tnfa kernel) arrivals
          → Each (λ (reach : Reach). IsTarget tnfa reach.to)
          (map (λ (arrival : Arrival). record { to = arrival.to; events = arrival.events; from = arrival.from }) arrivals)
      each [] plain = tt
      each (arrival ∷ arrivals) plain = (arrival_target tnfa leads_of kernel arrival are plain.0, each arrivals plain.1)

  -- the start has no leaf
  start_moves : state_at tnfa start_place ≡ Moves []
  start_moves = moves_same enc patterns tnfa 0 [] of refl

  pub start_place-place : IsPlace tnfa start_place
  start_place-place = record {
    part = some tnfa.states of.states;
    rest = subst (λ s. IsRest tnfa.classes s 0 0) (sym start_moves) (refl, refl);
  }
    where
      some : (states : List State) → RepresentEach tnfa.classes (automaton (terms_of patterns)) states → 0 < length states
      some [] held = absurd held
      some (state ∷ states) held = omega arith

  -- after a unit a place is in a leaf
  place_after-in_leaf : (place to : Place) (unit : ℕ) → IsPlace tnfa place → place_after tnfa place unit ≡ Some to → IsInLeaf tnfa to
  place_after-in_leaf place to unit is e =
      let found = mapped_from (λ rest. record { part = place.part; rest = numbered rest }) (rest_after tnfa.classes (state_at tnfa place) place.rest.0 unit) to e in
      subst (IsInLeaf tnfa) found.2 (
        record {
          part = is.part;
          rest = rest_stays tnfa.classes (state_at tnfa place) place.part place.rest.0 unit found.0 classes_stay is.rest found.1;
        },
        leaf place.part found.0 refl found.1,
      )
    where
      leaf : (part next : ℕ) → place.part ≡ part → rest_after tnfa.classes (state_at tnfa place) place.rest.0 unit ≡ Some next → 0 < place.part
      leaf zero next z after =
          let moved : state_at tnfa place ≡ Moves [] = ap (λ p. state_of tnfa.states (2 * p)) z ∙ start_moves in
          let none : rest_after tnfa.classes (Moves []) place.rest.0 unit ≡ Some next =
          subst (λ s. rest_after tnfa.classes s place.rest.0 unit ≡ Some next) moved after in
          absurd (cc)
      leaf (suc part) next z after = omega arith

  step_in_leaf : (unit : ℕ) (reach : Reach) (target : Target) (step : Step) → IsTarget tnfa target → step_to tnfa unit reach target ≡ Some step
      → IsInLeaf tnfa step.to
  step_in_leaf unit reach (Leaf place) step is e =
      let found = mapped_from (λ (to : Place). record { from = reach.from; events = reach.events; to = to }) (place_after tnfa place unit) step e in
      place_after-in_leaf place step.to unit is (found.1 ∙ ap (λ (s : Step). Some s.to) found.2)
  step_in_leaf unit reach (End rule) step is e = cc

  steps_in_leaf : (unit : ℕ) (reaches : List Reach) → Each (λ (reach : Reach). IsTarget tnfa reach.to) reaches
      → Each (λ (step : Step). IsInLeaf tnfa step.to) (filter_map (step_on tnfa unit) reaches)
  steps_in_leaf unit [] are = tt
  steps_in_leaf unit (reach ∷ reaches) are = at (step_on tnfa unit reach) refl (steps_in_leaf unit reaches are.1)
    where
      at : (o : Option Step) → step_on tnfa unit reach ≡ o → Each (λ (step : Step). IsInLeaf tnfa step.to) (filter_map (step_on tnfa unit) reaches)
          → Each (λ (step : Step). IsInLeaf tnfa step.to) (cons_option o (filter_map (step_on tnfa unit) reaches))
      at None e later = later
      at (Some step) e later = (step_in_leaf unit reach reach.to step are.0 e, later)

  -- steps over a unit lead to places in leaves
  pub next_steps-in_leaf : (kernel : List Place) (reaches : List Reach) (unit : ℕ) → All (IsPlace tnfa) kernel → IsClosureOf tnfa kernel reaches
      → Each (λ (step : Step). IsInLeaf tnfa step.to) (next_steps tnfa unit reaches)
  next_steps-in_leaf kernel reaches unit are is =
      first_steps-each (λ (step : Step). IsInLeaf tnfa step.to) [] (filter_map (step_on tnfa unit) reaches)
      (steps_in_leaf unit reaches (Each-from_all (λ (reach : Reach). IsTarget tnfa reach.to) reaches (closure_places kernel reaches are is)))
