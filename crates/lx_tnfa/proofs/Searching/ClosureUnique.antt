-- The closure of places is determined by what it is.
use Rattle.std.proofs.Common.{◌≡◌, ℕ, zero, suc, ◌<◌, arith, List, [], ◌∷◌, ◌++◌, map, length, get_or, refl, sym, ap, ap₂, ◌∙◌, subst, Some}
use Rattle.std.specs.Prelude.{AllPairs, Contains, slice_get}
use Rattle.lx_regex.specs.Dictionary.{IsBefore}
use Rattle.lx_tnfa.specs.Closure.{Arrival, AreLeastWalks, ComesBefore, IsClosureOf, IsPlainWalk, IsWalk, beginning_of, Step}
use Rattle.lx_tnfa.specs.Tnfa.{Tnfa}
use Rattle.lx_tnfa.specs.declared.closure.Reach.{Reach}
use Rattle.lx_tnfa.specs.declared.closure.Stop.{Stop}
use Rattle.lx_tnfa.specs.declared.closure.Stop.TheVariants.{AtTarget}
use Rattle.lx_tnfa.specs.declared.closure.Target.{Target}
use Rattle.lx_tnfa.specs.declared.places.Place.{Place}
use Rattle.lx_tnfa.specs.declared.states.Event.{Event}
use Rattle.lx_tnfa.specs.DepthFirst.{Found}
use Rattle.lx_tnfa.proofs.Searching.LeastWalks.{target_same}
use Rattle.lx_tnfa.proofs.Searching.SearchBasics.{Each}
use Rattle.lx_tnfa.proofs.Searching.SearchLaws.{IsAscending}
use Rattle.lx_tnfa.proofs.Searching.SearchPaths.{Each-from_all}
use Rattle.lx_tnfa.proofs.Searching.SearchUnique.{IsLeastOf, least_unique}
use Rattle.lx_tnfa.proofs.Searching.StopNumbers.{stop_number}

-- an arrival as what a search lists
abbrev found_of : Arrival → Found
found_of arrival = record { state = stop_number (AtTarget arrival.to); choices = arrival.from ∷ arrival.choices }

abbrev IsFoundBy : Tnfa → List Place → Found → Type 0
IsFoundBy tnfa places found = (arrival : Arrival) × IsPlainWalk tnfa places arrival × (found_of arrival ≡ found)

-- the events of a walk are told by its choices
events_same : (tnfa : Tnfa) (from : Stop) (choices : List ℕ) (visited others : List Stop) (events later : List Event) (to end : Stop)
    → IsWalk tnfa from choices visited events to → IsWalk tnfa from choices others later end → events ≡ later
events_same tnfa from [] visited others events later to end w v = w.1 ∙ sym v.1
events_same tnfa from (choice ∷ choices) visited others events later to end w v =
    let same : v.0 ≡ w.0 = some_same v.0 w.0 (sym v.3 ∙ w.3) in
    w.5
    ∙ ap₂ (λ (s : Step) (l : List Event). s.events ++ l) (sym same)
    (events_same tnfa w.0.to choices w.1 v.1 w.2 v.2 to end w.6 (subst (λ (s : Step). IsWalk tnfa s.to choices v.1 v.2 end) same v.6))
    ∙ sym v.5
  where
    some_same : (step other : Step) → Some step ≡ Some other → step ≡ other
    some_same step other e = cc

each_map : (P : Found → Type 0) (arrivals : List Arrival) → Each (λ arrival. P (found_of arrival)) arrivals → Each P (map found_of arrivals)
each_map P [] h = tt
each_map P (arrival ∷ arrivals) h = (h.0, each_map P arrivals h.1)

contains_map : (arrivals : List Arrival) (target : Target) → Contains (map (λ (arrival : Arrival). arrival.to) arrivals) target
    → Contains (map (λ (found : Found). found.state) (map found_of arrivals)) (stop_number (AtTarget target))
contains_map [] target c = absurd (omega (arith, c.1))
contains_map (arrival ∷ arrivals) target c = at c.0 c.1 c.2 (contains_map arrivals target)
  where
    at : (k : ℕ) → k < length (map (λ (a : Arrival). a.to) (arrival ∷ arrivals)) → get_or (map (λ (a : Arrival). a.to) (arrival ∷ arrivals)) k target ≡ target
        → (Contains (map (λ (a : Arrival). a.to) arrivals) target → Contains (map (λ (found : Found). found.state) (map found_of arrivals)) (stop_number (AtTarget target)))
        → Contains (map (λ (found : Found). found.state) (map found_of (arrival ∷ arrivals))) (stop_number (AtTarget target))
    at zero lt e later = (0, omega arith, ap (λ t. stop_number (AtTarget t)) e)
    at (suc k) lt e later = let r = later (k, omega arith, e) in (suc r.0, omega (arith, r.1), r.2)

ascending : (arrivals : List Arrival) → AllPairs ComesBefore arrivals → IsAscending (map found_of arrivals)
ascending [] h = tt
ascending (arrival ∷ arrivals) h = (
  each_map (λ found. IsBefore (arrival.from ∷ arrival.choices) found.choices) arrivals
      (Each-from_all (ComesBefore arrival) arrivals (λ k d lt. h 0 (suc k) d (omega arith) (omega arith))),
  ascending arrivals (λ i j d lt within. h (suc i) (suc j) d (omega arith) (omega arith)),
)

least_of : (tnfa : Tnfa) (places : List Place) (arrivals : List Arrival) → AreLeastWalks tnfa places arrivals
    → IsLeastOf (IsFoundBy tnfa places) (map found_of arrivals)
least_of tnfa places arrivals is = (
  each_map (IsFoundBy tnfa places) arrivals
      (Each-from_all (λ arrival. IsFoundBy tnfa places (found_of arrival)) arrivals (λ k d lt. (get_or arrivals k d, is.plain k d lt, refl))),
  (λ found by.
      subst (λ (f : Found). Contains (map (λ (e : Found). e.state) (map found_of arrivals)) f.state) by.2
      (contains_map arrivals by.0.to (is.complete by.0 by.1))),
  each_map (λ found. (ws : List ℕ) → IsFoundBy tnfa places (record { state = found.state; choices = ws }) → IsBefore ws found.choices → ⊥) arrivals
      (Each-from_all
      (λ arrival. (ws : List ℕ) → IsFoundBy tnfa places (record { state = stop_number (AtTarget arrival.to); choices = ws })
      → IsBefore ws (arrival.from ∷ arrival.choices) → ⊥) arrivals
      (λ k d lt ws by before.
      is.least k d lt by.0 by.1 (target_same by.0.to (get_or arrivals k d).to (ap (λ (f : Found). f.state) by.2))
      (subst (λ c. IsBefore c ((get_or arrivals k d).from ∷ (get_or arrivals k d).choices)) (sym (ap (λ (f : Found). f.choices) by.2)) before))),
  ascending arrivals is.order,
)

abbrev head_or : List ℕ → ℕ
head_or [] = 0
head_or (x ∷ xs) = x

abbrev rest_of : List ℕ → List ℕ
rest_of [] = []
rest_of (x ∷ xs) = xs

abbrev reach_from : Arrival → Reach
reach_from arrival = record { to = arrival.to; events = arrival.events; from = arrival.from }

-- plain walks with the same choices to the same target give one reach
reach_same : (tnfa : Tnfa) (places : List Place) (arrival other : Arrival) → IsPlainWalk tnfa places arrival → IsPlainWalk tnfa places other
    → found_of arrival ≡ found_of other → reach_from arrival ≡ reach_from other
reach_same tnfa places arrival other plain also same =
    let to : arrival.to ≡ other.to = target_same arrival.to other.to (ap (λ (f : Found). f.state) same) in
    let from : arrival.from ≡ other.from = ap (λ (f : Found). head_or f.choices) same in
    let choices : arrival.choices ≡ other.choices = ap (λ (f : Found). rest_of f.choices) same in
    let place : also.place ≡ plain.place = some_same also.place plain.place
    (sym also.begins ∙ ap (slice_get places) (sym from) ∙ plain.begins) in
    let walk =
    subst (λ c. IsWalk tnfa (beginning_of tnfa plain.place) c also.visited other.events (AtTarget other.to)) (sym choices)
    (subst (λ p. IsWalk tnfa (beginning_of tnfa p) other.choices also.visited other.events (AtTarget other.to)) place also.walk) in
    let events : arrival.events ≡ other.events =
    events_same tnfa (beginning_of tnfa plain.place) arrival.choices plain.visited also.visited arrival.events other.events (AtTarget arrival.to) (AtTarget other.to)
    plain.walk walk in
    λ i. record { to = to i; events = events i; from = from i }
  where
    some_same : (place next : Place) → Some place ≡ Some next → place ≡ next
    some_same place next e = cc

reaches_same : (tnfa : Tnfa) (places : List Place) (arrivals others : List Arrival) → Each (IsPlainWalk tnfa places) arrivals
    → Each (IsPlainWalk tnfa places) others → map found_of arrivals ≡ map found_of others → map reach_from arrivals ≡ map reach_from others
reaches_same tnfa places [] [] h k e = refl
reaches_same tnfa places [] (other ∷ others) h k e = cc
reaches_same tnfa places (arrival ∷ arrivals) [] h k e = cc
reaches_same tnfa places (arrival ∷ arrivals) (other ∷ others) h k e =
    let first : found_of arrival ≡ found_of other = ap (λ l. first_or l (found_of arrival)) e in
    let rest : map found_of arrivals ≡ map found_of others = ap tail_of e in
    ap₂ (λ a b. a ∷ b) (reach_same tnfa places arrival other h.0 k.0 first) (reaches_same tnfa places arrivals others h.1 k.1 rest)
  where
    first_or : List Found → Found → Found
    first_or [] default = default
    first_or (x ∷ xs) default = x

    tail_of : List Found → List Found
    tail_of [] = []
    tail_of (x ∷ xs) = xs

-- two closures of the same places are the same list
pub closure_same : (tnfa : Tnfa) (places : List Place) (reaches others : List Reach) → IsClosureOf tnfa places reaches → IsClosureOf tnfa places others
    → reaches ≡ others
closure_same tnfa places reaches others is also =
    is.2
    ∙ reaches_same tnfa places is.0 also.0 (Each-from_all (IsPlainWalk tnfa places) is.0 is.1.plain) (Each-from_all (IsPlainWalk tnfa places) also.0 also.1.plain)
    (least_unique (IsFoundBy tnfa places) (map found_of is.0) (map found_of also.0) (least_of tnfa places is.0 is.1) (least_of tnfa places also.0 also.1))
    ∙ sym also.2
