-- One state, by the closure of its list of places.
use Rattle.std.proofs.Common.{◌≡◌, ℕ, zero, suc, ◌<◌, ◌≤◌, arith, Bool, nat_eq, List, [], ◌∷◌, length, Option, Some, None, refl, rules, sym, ap, ◌∙◌, subst}
use Rattle.std.proofs.lemmas.Option.{get_or_from_slice_get, slice_get_within}
use Rattle.std.specs.Option.{IfSome, option_map}
use Rattle.std.specs.Prelude.{All, map, slice_get, sum_by}
use Rattle.lx_auto.specs.Automaton.{AreApart}
use Rattle.lx_auto.specs.declared.automaton.Edge.{Edge}
use Rattle.lx_auto.specs.declared.automaton.State.{State}
use Rattle.lx_base.specs.declared.settings.Enc.{Enc}
use Rattle.lx_regex.specs.Pattern.{Pattern}
use Rattle.lx_tnfa.specs.Closure.{Arrival, IsClosureOf, IsPlainWalk}
use Rattle.lx_tnfa.specs.Tnfa.{IsPlace, IsTnfaOf, Tnfa}
use Rattle.lx_tnfa.specs.declared.closure.Reach.{Reach}
use Rattle.lx_tnfa.specs.declared.closure.Target.{Target}
use Rattle.lx_tnfa.specs.declared.closure.Target.TheVariants.{End, Leaf}
use Rattle.lx_tnfa.specs.declared.places.Place.{Place}
use Rattle.lx_tnfa.proofs.Searching.SearchBasics.{Each}
use Rattle.lx_tnfa.proofs.Searching.SearchPaths.{All-from_each, Each-from_all}
use Rattle.lx_tdfa.specs.Building.{AreListed, AreTargets, greatest_of}
use Rattle.lx_tdfa.specs.Edges.{AreEdgesBefore, EndBy}
use Rattle.lx_tdfa.specs.Making.{seen_ending}
use Rattle.lx_tdfa.specs.Steps.{Ending, IsFound, ending_at, first_ending}
use Rattle.lx_tdfa.specs.Table.{IsStateOf, accept_of, is_first, leave_of, onward_by}
use Rattle.lx_tdfa.specs.declared.steps.Ending as held
use Rattle.lx_tdfa.proofs.Loops.EdgesMade.{found_places, length-among}

-- no edge goes further than a bound
pub EndBy-all : (bound : ℕ) (edges : List Edge) → EndBy bound edges → All (λ (edge : Edge). edge.hi ≤ bound) edges
EndBy-all bound edges ends = All-from_each (λ (edge : Edge). edge.hi ≤ bound) edges (each edges ends)
  where
    each : (xs : List Edge) → EndBy bound xs → Each (λ (edge : Edge). edge.hi ≤ bound) xs
    each [] h = tt
    each (x ∷ xs) h = (h.0, each xs h.1)

pub is_first-zero : (number : ℕ) → nat_eq number 0 ≡ is_first number
is_first-zero zero = refl
is_first-zero (suc number) = search rules

-- walks of a closure begin at one of its places
pub closure_sources : (tnfa : Tnfa) (bound : ℕ) (kernel : List Place) (reaches : List Reach) → IsClosureOf tnfa kernel reaches → length kernel ≤ bound
    → All (λ (reach : Reach). reach.from < bound) reaches
closure_sources tnfa bound kernel reaches is few =
    subst (All (λ (reach : Reach). reach.from < bound)) (sym is.2)
    (All-from_each (λ (reach : Reach). reach.from < bound)
    (map (λ (arrival : Arrival). record { to = arrival.to; events = arrival.events; from = arrival.from }) is.0)
    (each is.0 (Each-from_all (IsPlainWalk tnfa kernel) is.0 is.1.plain)))
  where
    each : (arrivals : List Arrival) → Each (IsPlainWalk tnfa kernel) arrivals
        → Each (λ (reach : Reach). reach.from < bound)
        (map (λ (arrival : Arrival). record { to = arrival.to; events = arrival.events; from = arrival.from }) arrivals)
    each [] plain = tt
    each (arrival ∷ arrivals) plain =
        let within : arrival.from < length kernel = slice_get_within kernel arrival.from plain.0.place plain.0.begins in
        (omega (arith, within, few), each arrivals plain.1)

pub first_ending-source : (bound : ℕ) (reaches : List Reach) → Each (λ (reach : Reach). reach.from < bound) reaches → (ending : Ending)
    → first_ending reaches ≡ Some ending → ending.from < bound
first_ending-source bound [] each ending e = cc
first_ending-source bound (reach ∷ reaches) each ending e = at reach.to e (first_ending-source bound reaches each.1 ending)
  where
    at : (to : Target) → ending_at reach to (first_ending reaches) ≡ Some ending → (first_ending reaches ≡ Some ending → ending.from < bound)
        → ending.from < bound
    at (Leaf place) e later = later e
    at (End rule) e later =
        let same : Path Ending (record { rule = rule; from = reach.from; events = reach.events }) ending = cc e in
        let lt : reach.from < bound = each.0 in
        subst (λ (x : Ending). x.from < bound) same lt

module _ (enc : Enc) (patterns : List Pattern) (tnfa : Tnfa) (of : IsTnfaOf enc patterns tnfa) (lists : List (List Place)) (listed : AreListed tnfa lists)
    (number : ℕ) (list : List Place) (there : Some list ≡ slice_get lists number) where
  list_found : IsFound tnfa (greatest_of tnfa) list
  list_found =
      subst (IsFound tnfa (greatest_of tnfa)) (get_or_from_slice_get lists number list list (sym there))
      (listed.found number list (slice_get_within lists number list (sym there)))

  pub list_places : All (IsPlace tnfa) list
  list_places = found_places enc patterns tnfa of (greatest_of tnfa) list list_found

  pub list_short : length list ≤ 1048576
  list_short =
      let among : length list ≤ sum_by length lists = length-among lists number list (sym there) in
      let few : sum_by length lists ≤ 1048576 = listed.within.few_places in omega (arith, among, few)

  pub list_targets : (reaches : List Reach) → IsClosureOf tnfa list reaches → AreTargets tnfa reaches
  list_targets reaches is = record {
    kernel = list;
    found = list_found;
    closure = is;
    sources = closure_sources tnfa 1048576 list reaches is list_short;
  }

  pub list_ending : (reaches : List Reach) → IsClosureOf tnfa list reaches → (ending : Option held.Ending)
      → option_map seen_ending ending ≡ first_ending reaches → IfSome ending (λ (e : held.Ending). e.reach.now.from < 1048576)
  list_ending reaches is None same = tt
  list_ending reaches is (Some ending) same =
      first_ending-source 1048576 reaches
      (Each-from_all (λ (reach : Reach). reach.from < 1048576) reaches (closure_sources tnfa 1048576 list reaches is list_short))
      (seen_ending ending) (sym same)

  pub state_made : (new : List (List Place)) (first : Bool) (reaches : List Reach) (ending : Option held.Ending) (state : State)
      → IsClosureOf tnfa list reaches → option_map seen_ending ending ≡ first_ending reaches → first ≡ is_first number
      → AreEdgesBefore tnfa (greatest_of tnfa) new first (onward_by tnfa reaches) None state.edges
      → state.accept ≡ accept_of tnfa first (option_map seen_ending ending) → state.leave ≡ leave_of tnfa first (option_map seen_ending ending)
      → (other : List Place) → slice_get lists number ≡ Some other
      → IsStateOf tnfa (greatest_of tnfa) new (is_first number) other state × AreApart state.edges
  state_made new first reaches ending state is same begins edges accept leave other at =
      subst (λ (l : List Place). IsStateOf tnfa (greatest_of tnfa) new (is_first number) l state × AreApart state.edges)
      (let e : Some list ≡ Some other = there ∙ at in let q : list ≡ other = cc e in q) (
        subst (λ b. IsStateOf tnfa (greatest_of tnfa) new b list state) begins
            (record {
              reaches = reaches;
              closure = is;
              is = record {
                edges = λ unit le. edges.right unit le tt;
                units = EndBy-all (greatest_of tnfa) state.edges edges.units;
                accept = accept ∙ ap (λ o. accept_of tnfa first o) same;
                leave = leave ∙ ap (λ o. leave_of tnfa first o) same;
              };
            }),
        edges.apart,
      )
