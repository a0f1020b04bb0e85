-- One edge, and the list of places to which it leads.
use Rattle.std.proofs.Common.{◌≡◌, ◌≢◌, ℕ, zero, suc, ◌+◌, ◌<◌, ◌≤◌, inl, inr, arith, Bool, List, [], ◌∷◌, ◌++◌, length, map, filter_map, Option, Some, None, refl, sym, ap, ◌∙◌, subst}
use Rattle.std.proofs.lemmas.List.{append-nil}
use Rattle.std.proofs.lemmas.List.Elements.{All-append, All-cons, All-nil}
use Rattle.std.proofs.lemmas.List.Sums.{sum_by-cons}
use Rattle.std.specs.List.{cons_option}
use Rattle.std.specs.Option.{option_map}
use Rattle.std.specs.Prelude.{All, AllPairs, Contains, slice_get, sum_by}
use Rattle.lx_base.specs.declared.faults.Stop.{Stop}
use Rattle.lx_base.specs.declared.places.Pos.{Pos}
use Rattle.lx_base.specs.declared.settings.Enc.{Enc}
use Rattle.lx_auto.specs.declared.automaton.Edge.{Edge}
use Rattle.lx_regex.specs.Pattern.{Pattern}
use Rattle.lx_tnfa.specs.Tnfa.{IsPlace, IsTnfaOf, Tnfa, place_after}
use Rattle.lx_tnfa.specs.declared.closure.Reach.{Reach}
use Rattle.lx_tnfa.specs.declared.closure.Target.{Target}
use Rattle.lx_tnfa.specs.declared.closure.Target.TheVariants.{End, Leaf}
use Rattle.lx_tnfa.specs.declared.places.Place.{Place}
use Rattle.lx_tnfa.proofs.Searching.SearchBasics.{Each}
use Rattle.lx_tnfa.proofs.Searching.SearchPaths.{All-from_each, Each-from_all}
use Rattle.lx_tdfa.specs.Building.{AreListed, AreTargets, Grows, TooManyFound, greatest_of}
use Rattle.lx_tdfa.specs.Making.{Adds, AreMany, IsWithin, StopsBy, seen_step}
use Rattle.lx_tdfa.specs.Registers.{step_ops, widest}
use Rattle.lx_tdfa.specs.Steps.{IsFound, IsInLeaf, Step, at_start, next_steps, onward, places_of, start_place, step_on, step_to}
use Rattle.lx_tdfa.specs.Table.{IsEdgeOf}
use Rattle.lx_tdfa.specs.declared.steps.Step as held
use Rattle.lx_tdfa.proofs.Loops.ListSets.{apart-push}
use Rattle.lx_tdfa.proofs.Loops.Stops.{StopsBy-wider}
use Rattle.lx_tdfa.proofs.Walks.ListReads.{slice_get-behind, slice_get-front}
use Rattle.lx_tdfa.proofs.Rules.StepPlaces.{first_steps-each, next_steps-in_leaf, start_place-place}

-- a list among others is no longer than all together
pub length-among : {P : Type 0} (lists : List (List P)) (number : ℕ) (list : List P) → slice_get lists number ≡ Some list → length list ≤ sum_by length lists
length-among [] number list e = cc
length-among (other ∷ lists) zero list e =
    let same : length other ≡ length list = ap (λ o. length o) (let q : other ≡ list = cc in q) in
    let sum : sum_by length (other ∷ lists) ≡ length other + sum_by length lists = sum_by-cons (λ l. length l) other lists in omega (arith, same, sum)
length-among (other ∷ lists) (suc number) list e =
    let r : length list ≤ sum_by length lists = length-among lists number list e in
    let sum : sum_by length (other ∷ lists) ≡ length other + sum_by length lists = sum_by-cons (λ l. length l) other lists in omega (arith, r, sum)

-- steps over a unit come from the places from which the targets do
step_from : (tnfa : Tnfa) (unit : ℕ) (reach : Reach) (to : Target) (step : Step) → step_to tnfa unit reach to ≡ Some step → step.from ≡ reach.from
step_from tnfa unit reach (Leaf place) step e = at (place_after tnfa place unit) e
  where
    at : (o : Option Place) → option_map (λ (to : Place). record { from = reach.from; events = reach.events; to = to }) o ≡ Some step → step.from ≡ reach.from
    at None e = cc
    at (Some to) e = let same : record { from = reach.from; events = reach.events; to = to } ≡ step = cc e in ap (λ (s : Step). s.from) (sym same)
step_from tnfa unit reach (End rule) step e = cc

pub steps_from : (P : ℕ → Type 0) (tnfa : Tnfa) (unit : ℕ) (reaches : List Reach) → Each (λ (reach : Reach). P reach.from) reaches
    → Each (λ (step : Step). P step.from) (filter_map (step_on tnfa unit) reaches)
steps_from P tnfa unit [] each = tt
steps_from P tnfa unit (reach ∷ reaches) each = at (step_on tnfa unit reach) refl (steps_from P tnfa unit reaches each.1)
  where
    at : (o : Option Step) → step_on tnfa unit reach ≡ o → Each (λ (step : Step). P step.from) (filter_map (step_on tnfa unit) reaches)
        → Each (λ (step : Step). P step.from) (cons_option o (filter_map (step_on tnfa unit) reaches))
    at None e later = later
    at (Some step) e later = (subst P (sym (step_from tnfa unit reach reach.to step e)) each.0, later)

seen_each : (P : Step → Type 0) (steps : List held.Step) → Each P (map seen_step steps) → Each (λ (step : held.Step). P (seen_step step)) steps
seen_each P [] each = tt
seen_each P (step ∷ steps) each = (each.0, seen_each P steps each.1)

-- the lists that are found have places
module _ (enc : Enc) (patterns : List Pattern) (tnfa : Tnfa) (of : IsTnfaOf enc patterns tnfa) where
  in_leaf_place : (list : List Place) → Each (IsInLeaf tnfa) list → Each (IsPlace tnfa) list
  in_leaf_place [] each = tt
  in_leaf_place (place ∷ list) each = (each.0.0, in_leaf_place list each.1)

  places_each : (steps : List Step) → Each (λ (step : Step). IsInLeaf tnfa step.to) steps → Each (IsInLeaf tnfa) (places_of steps)
  places_each [] each = tt
  places_each (step ∷ steps) each = (each.0, places_each steps each.1)

  pub found_places : (greatest : ℕ) (list : List Place) → IsFound tnfa greatest list → All (IsPlace tnfa) list
  found_places greatest list at_start = All-cons (IsPlace tnfa) start_place [] (start_place-place enc patterns tnfa of) (All-nil (IsPlace tnfa))
  found_places greatest list (onward kernel reaches unit step others found closure le steps) =
      let are : Each (IsInLeaf tnfa) (places_of (step ∷ others)) =
      subst (λ l. Each (IsInLeaf tnfa) (places_of l)) steps
      (places_each (next_steps tnfa unit reaches)
      (next_steps-in_leaf enc patterns tnfa of kernel reaches unit (found_places greatest kernel found) closure)) in
      All-from_each (IsPlace tnfa) (places_of (step ∷ others)) (in_leaf_place (places_of (step ∷ others)) are)

  module _ (lists : List (List Place)) (listed : AreListed tnfa lists) (reaches : List Reach) (targets : AreTargets tnfa reaches)
      (unit : ℕ) (within : unit ≤ greatest_of tnfa) (steps : List held.Step) (are : map seen_step steps ≡ next_steps tnfa unit reaches) where
    pub steps-sources : All (λ (step : held.Step). step.reach.now.from < 1048576) steps
    steps-sources =
        All-from_each (λ (step : held.Step). step.reach.now.from < 1048576) steps
        (seen_each (λ (step : Step). step.from < 1048576) steps
        (subst (λ l. Each (λ (step : Step). step.from < 1048576) l) (sym are)
        (first_steps-each (λ (step : Step). step.from < 1048576) [] (filter_map (step_on tnfa unit) reaches)
        (steps_from (λ from. from < 1048576) tnfa unit reaches
        (Each-from_all (λ (reach : Reach). reach.from < 1048576) reaches targets.sources)))))

    steps_found : (all : List held.Step) → map seen_step all ≡ next_steps tnfa unit reaches → all ≢ []
        → IsFound tnfa (greatest_of tnfa) (places_of (map seen_step all))
    steps_found [] same some = absurd (some refl)
    steps_found (step ∷ others) same some =
        onward targets.kernel reaches unit (seen_step step) (map seen_step others) targets.found targets.closure within (sym same)

    steps_in_leaf : All (IsInLeaf tnfa) (places_of (map seen_step steps))
    steps_in_leaf =
        subst (λ l. All (IsInLeaf tnfa) (places_of l)) (sym are)
        (All-from_each (IsInLeaf tnfa) (places_of (next_steps tnfa unit reaches))
        (places_each (next_steps tnfa unit reaches)
        (next_steps-in_leaf enc patterns tnfa of targets.kernel reaches unit
        (found_places (greatest_of tnfa) targets.kernel targets.found) targets.closure)))

    module _ (some : steps ≢ []) (places : List Place) (lead : places ≡ places_of (map seen_step steps)) where
      all_found : All (IsFound tnfa (greatest_of tnfa)) (lists ++ places ∷ [])
      all_found =
          All-append (IsFound tnfa (greatest_of tnfa)) lists (places ∷ []) listed.found
          (All-cons (IsFound tnfa (greatest_of tnfa)) places []
          (subst (IsFound tnfa (greatest_of tnfa)) (sym lead) (steps_found steps are some)) (All-nil (IsFound tnfa (greatest_of tnfa))))

      pub adds-grows : (new : List (List Place)) → Adds lists places new → IsWithin new → Grows tnfa lists new
      adds-grows new (inl same) few = record {
        later = [];
        lists = same.0 ∙ sym (append-nil lists);
        listed = subst (AreListed tnfa) (sym same.0) listed;
      }
      adds-grows new (inr behind) few = record {
        later = places ∷ [];
        lists = behind.0;
        listed = record {
          found = subst (All (IsFound tnfa (greatest_of tnfa))) (sym behind.0) all_found;
          start = ap (λ l. slice_get l 0) behind.0 ∙ slice_get-front lists (places ∷ []) 0 (start_place ∷ []) listed.start;
          places = λ number list e.
              elim (slice_get-behind lists places list (suc number) (ap (λ l. slice_get l (suc number)) (sym behind.0) ∙ e)) [
                | inl early ↦ listed.places number list early
                | inr last ↦ subst (All (IsInLeaf tnfa)) (sym lead ∙ last.1) steps_in_leaf
              ];
          within = few;
          apart = subst (λ l. AllPairs (λ list other. list ≢ other) l) (sym behind.0) (apart-push lists places behind.1 listed.apart);
        };
      }

      pub too_many-found : (at : Pos) (why : Stop) → StopsBy at (AreMany (lists ++ places ∷ []) × ¬ Contains lists places) why
          → StopsBy at (TooManyFound tnfa) why
      too_many-found at why =
          StopsBy-wider at why
          (λ many. (lists ++ places ∷ [], all_found, record { apart = apart-push lists places many.1 listed.apart; many = many.0 }))

    -- the edge leads to the list of the places
    pub edge-made : (new : List (List Place)) (first : Bool) (edge : Edge) (places : List Place) → steps ≢ []
        → slice_get new edge.to ≡ Some places → places ≡ places_of (map seen_step steps)
        → edge.ops ≡ step_ops tnfa (widest tnfa.rules) first 0 (map seen_step steps)
        → IsEdgeOf tnfa new first (next_steps tnfa unit reaches) (places_of (next_steps tnfa unit reaches)) (Some edge)
    edge-made new first edge places some there lead ops =
        subst (λ l. IsEdgeOf tnfa new first l (places_of l) (Some edge)) are (at steps some (there ∙ ap (λ l. Some l) lead) ops)
      where
        at : (all : List held.Step) → all ≢ [] → slice_get new edge.to ≡ Some (places_of (map seen_step all))
            → edge.ops ≡ step_ops tnfa (widest tnfa.rules) first 0 (map seen_step all)
            → IsEdgeOf tnfa new first (map seen_step all) (places_of (map seen_step all)) (Some edge)
        at [] some there ops = absurd (some refl)
        at (step ∷ others) some there ops = (there, ops)

    -- where there is no step there is no edge
    pub no_edge-made : (first : Bool) → steps ≡ [] → IsEdgeOf tnfa lists first (next_steps tnfa unit reaches) (places_of (next_steps tnfa unit reaches)) None
    no_edge-made first none =
        subst (λ l. IsEdgeOf tnfa lists first l (places_of l) None) (ap (λ l. map seen_step l) (sym none) ∙ are) tt
