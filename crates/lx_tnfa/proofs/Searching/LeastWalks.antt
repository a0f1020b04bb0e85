-- The search of the graph of stops gives the least plain walks.
use Rattle.std.proofs.Common.{◌≡◌, ◌≢◌, ℕ, zero, suc, ◌<◌, ◌⊎◌, inl, inr, arith, List, [], ◌∷◌, map, length, get_or, refl, sym, ap, ◌∙◌, subst, Some}
use Rattle.std.proofs.lemmas.List.{length-map}
use Rattle.std.proofs.Math.ListN.{get_or-map}
use Rattle.std.proofs.lemmas.List.Elements.{All-map}
use Rattle.std.proofs.lemmas.List.Kept.{AllPairs-cons}
use Rattle.std.specs.Prelude.{All, AllPairs, Contains, slice_get}
use Rattle.lx_regex.specs.Dictionary.{IsBefore}
use Rattle.lx_tnfa.specs.Closure.{Arrival, AreLeastWalks, ComesBefore, IsDead, IsPlainWalk, IsWalk, beginning_of, Step}
use Rattle.lx_tnfa.specs.Tnfa.{Tnfa}
use Rattle.lx_tnfa.specs.declared.closure.Stop.{Stop}
use Rattle.lx_tnfa.specs.declared.closure.Stop.TheVariants.{AtState, AtTarget}
use Rattle.lx_tnfa.specs.declared.closure.Target.{Target}
use Rattle.lx_tnfa.specs.declared.closure.Target.TheVariants.{Leaf, End}
use Rattle.lx_tnfa.specs.declared.places.Place.{Place}
use Rattle.lx_tnfa.specs.declared.states.Event.{Event}
use Rattle.lx_tnfa.specs.DepthFirst.{Found, IsIn}
use Rattle.lx_tnfa.proofs.Searching.SearchBasics.{Each}
use Rattle.lx_tnfa.proofs.Searching.SearchPaths.{All-from_each, Avoids, Contains-from_in, Each-from_all, IsIn-from_contains, IsSearchFrom, IsSimple, Path, PathFrom}
use Rattle.lx_tnfa.proofs.Searching.SearchUnique.{IsListed, listed_of}
use Rattle.lx_tnfa.proofs.Searching.StopNumbers.{dead_from_listed, dead_stops, dead_to_listed, path_walk, stop_graph, stop_number, stop_same, walk_path}

-- the numbers of the stops at which the walks from places begin
abbrev pub begin_numbers : Tnfa → List Place → List ℕ
begin_numbers tnfa places = map (λ (place : Place). stop_number (beginning_of tnfa place)) places

place_begin : (tnfa : Tnfa) (places : List Place) (from : ℕ) (place : Place) → slice_get places from ≡ Some place
    → (from < length (begin_numbers tnfa places))
    × (get_or (begin_numbers tnfa places) from (stop_number (beginning_of tnfa place)) ≡ stop_number (beginning_of tnfa place))
place_begin tnfa [] from place e = cc
place_begin tnfa (other ∷ places) zero place e =
    let same : other ≡ place = cc in (omega arith, ap (λ p. stop_number (beginning_of tnfa p)) same)
place_begin tnfa (other ∷ places) (suc from) place e = let r = place_begin tnfa places from place e in (omega (arith, r.0), r.1)

begin_place : (tnfa : Tnfa) (places : List Place) (from number : ℕ) → from < length (begin_numbers tnfa places)
    → get_or (begin_numbers tnfa places) from number ≡ number
    → (place : Place) × (slice_get places from ≡ Some place) × (stop_number (beginning_of tnfa place) ≡ number)
begin_place tnfa [] from number lt e = absurd (omega arith)
begin_place tnfa (place ∷ places) zero number lt e = (place, refl, e)
begin_place tnfa (place ∷ places) (suc from) number lt e = begin_place tnfa places from number (omega arith) e

-- plain walks visit each number once, and no dead one
simple_numbers : (visited : List Stop) → AllPairs (λ stop other. stop ≢ other) visited → IsSimple (map stop_number visited)
simple_numbers [] h = λ i j d lt within. absurd (omega arith)
simple_numbers (stop ∷ stops) h =
    AllPairs-cons (λ x y. x ≡ y → ⊥) (stop_number stop) (map stop_number stops)
    (All-map (λ y. stop_number stop ≡ y → ⊥) stop_number stops
    (λ k d lt e. h 0 (suc k) d (omega arith) (omega arith) (stop_same stop (get_or stops k d) e)))
    (simple_numbers stops (λ i j d lt within. h (suc i) (suc j) d (omega arith) (omega arith)))

simple_stops : (visited : List Stop) → IsSimple (map stop_number visited) → AllPairs (λ stop other. stop ≢ other) visited
simple_stops visited h i j d lt within e =
    h i j (stop_number d) lt (omega (arith, length-map visited stop_number))
    (get_or-map stop_number visited i d ∙ ap stop_number e ∙ sym (get_or-map stop_number visited j d))

live_numbers : (tnfa : Tnfa) (visited : List Stop) → All (λ stop. ¬ IsDead tnfa stop) visited → Avoids (dead_stops tnfa) (map stop_number visited)
live_numbers tnfa visited h =
    All-map (λ x. Contains (dead_stops tnfa) x → ⊥) stop_number visited
    (λ k d lt c. h k d lt (dead_from_listed tnfa (get_or visited k d) (IsIn-from_contains (dead_stops tnfa) (stop_number (get_or visited k d)) c)))

live_stops : (tnfa : Tnfa) (visited : List Stop) → Avoids (dead_stops tnfa) (map stop_number visited) → All (λ stop. ¬ IsDead tnfa stop) visited
live_stops tnfa visited h k d lt dead =
    h k (stop_number d) (omega (arith, length-map visited stop_number))
    (Contains-from_in (dead_stops tnfa) (get_or (map stop_number visited) k (stop_number d))
    (subst (λ n. IsIn (dead_stops tnfa) n) (sym (get_or-map stop_number visited k d)) (dead_to_listed tnfa (get_or visited k d) dead)))

-- a path of the search
abbrev pub IsFoundPath : Tnfa → List Place → List ℕ → ℕ → Type 0
IsFoundPath tnfa places choices last =
    (numbers : List ℕ) × PathFrom (stop_graph tnfa) (begin_numbers tnfa places) choices numbers last × IsSimple numbers
    × Avoids (dead_stops tnfa) numbers

plain_path : (tnfa : Tnfa) → 0 < length tnfa.states → (places : List Place) (arrival : Arrival) → IsPlainWalk tnfa places arrival
    → IsFoundPath tnfa places (arrival.from ∷ arrival.choices) (stop_number (AtTarget arrival.to))
plain_path tnfa some places arrival plain =
    let begin = beginning_of tnfa plain.place in
    let at = place_begin tnfa places arrival.from plain.place plain.begins in (
      map stop_number plain.visited,
      (stop_number begin, at.0, at.1, walk_path tnfa some begin arrival.choices plain.visited arrival.events (AtTarget arrival.to) plain.walk),
      simple_numbers plain.visited plain.once,
      live_numbers tnfa plain.visited plain.live,
    )

-- a walk is told by its choices
walk_same : (tnfa : Tnfa) (from : Stop) (choices : List ℕ) (visited others : List Stop) (events later : List Event) (to end : Stop)
    → IsWalk tnfa from choices visited events to → IsWalk tnfa from choices others later end → visited ≡ others
walk_same tnfa from [] visited others events later to end w v = w.0 ∙ sym v.0
walk_same tnfa from (choice ∷ choices) visited others events later to end w v =
    let same : v.0 ≡ w.0 = some_same v.0 w.0 (sym v.3 ∙ w.3) in
    w.4 ∙ ap (λ l. from ∷ l) (walk_same tnfa w.0.to choices w.1 v.1 w.2 v.2 to end w.6 (subst (λ (s : Step). IsWalk tnfa s.to choices v.1 v.2 end) same v.6)) ∙ sym v.4
  where
    some_same : (step other : Step) → Some step ≡ Some other → step ≡ other
    some_same step other e = cc

place_same : (place other : Place) → Some place ≡ Some other → place ≡ other
place_same place other e = cc

-- a walk with the choices of a path of the search is plain
pub found_plain : (tnfa : Tnfa) → 0 < length tnfa.states → (places : List Place) (found : Found) → IsFoundPath tnfa places found.choices found.state
    → (place : Place) (from : ℕ) (choices : List ℕ) (passed : List Stop) (events : List Event) (target : Target) → slice_get places from ≡ Some place
    → found.choices ≡ from ∷ choices → IsWalk tnfa (beginning_of tnfa place) choices passed events (AtTarget target)
    → IsPlainWalk tnfa places (record { from = from; choices = choices; events = events; to = target })
found_plain tnfa some places found path place from choices passed events target begins chosen walk =
    let p = subst (λ c. PathFrom (stop_graph tnfa) (begin_numbers tnfa places) c path.0 found.state) chosen path.1 in
    let at = begin_place tnfa places from p.0 p.1 p.2 in
    let same : at.0 ≡ place = place_same at.0 place (sym at.1 ∙ begins) in
    let number : stop_number (beginning_of tnfa place) ≡ p.0 = ap (λ q. stop_number (beginning_of tnfa q)) (sym same) ∙ at.2 in
    let w =
    path_walk tnfa some (beginning_of tnfa place) choices path.0 found.state
    (subst (λ n. Path (stop_graph tnfa) n choices path.0 found.state) (sym number) p.3) in
    let alike : w.1 ≡ passed = walk_same tnfa (beginning_of tnfa place) choices w.1 passed w.2 events w.0 (AtTarget target) w.5 walk in
    record {
      place = place;
      begins = begins;
      visited = passed;
      walk = walk;
      once = subst (AllPairs (λ stop other. stop ≢ other)) alike (simple_stops w.1 (subst IsSimple w.4 path.2));
      live = subst (All (λ stop. ¬ IsDead tnfa stop)) alike (live_stops tnfa w.1 (subst (Avoids (dead_stops tnfa)) w.4 path.3));
    }

-- what is found shows the arrival
pub record IsShown (tnfa : Tnfa) (places : List Place) (found : Found) (arrival : Arrival) : Type 0 where
  pub state : found.state ≡ stop_number (AtTarget arrival.to)
  pub choices : found.choices ≡ arrival.from ∷ arrival.choices
  pub plain : IsPlainWalk tnfa places arrival

-- what is found is a state, or shows an arrival
abbrev pub IsSeen : Tnfa → List Place → Found → Type 0
IsSeen tnfa places found = ((number : ℕ) × (found.state ≡ stop_number (AtState number))) ⊎ ((arrival : Arrival) × IsShown tnfa places found arrival)

-- the arrivals that a list of found stops shows, in its order
abbrev pub Shows : Tnfa → List Place → List Found → List Arrival → Type 0
Shows tnfa places [] arrivals = arrivals ≡ []
Shows tnfa places (found ∷ all) arrivals =
    (((number : ℕ) × (found.state ≡ stop_number (AtState number))) × Shows tnfa places all arrivals)
    ⊎ ((arrival : Arrival) × (others : List Arrival) × (arrivals ≡ arrival ∷ others) × IsShown tnfa places found arrival
    × Shows tnfa places all others)

pub shown : (tnfa : Tnfa) (places : List Place) (all : List Found) → Each (IsSeen tnfa places) all → (arrivals : List Arrival) × Shows tnfa places all arrivals
shown tnfa places [] seen = ([], refl)
shown tnfa places (found ∷ all) seen = at seen.0 (shown tnfa places all seen.1)
  where
    at : IsSeen tnfa places found → ((arrivals : List Arrival) × Shows tnfa places all arrivals)
        → (arrivals : List Arrival) × Shows tnfa places (found ∷ all) arrivals
    at (inl state) r = (r.0, inl (state, r.1))
    at (inr arrival) r = (arrival.0 ∷ r.0, inr (arrival.0, r.0, refl, arrival.1, r.1))

each_shown : (tnfa : Tnfa) (places : List Place) (P : Found → Type 0) (Q : Arrival → Type 0)
    → ((found : Found) (arrival : Arrival) → IsShown tnfa places found arrival → P found → Q arrival)
    → (all : List Found) (arrivals : List Arrival) → Shows tnfa places all arrivals → Each P all → Each Q arrivals
each_shown tnfa places P Q f [] arrivals s h = subst (Each Q) (sym s) tt
each_shown tnfa places P Q f (found ∷ all) arrivals (inl s) h = each_shown tnfa places P Q f all arrivals s.1 h.1
each_shown tnfa places P Q f (found ∷ all) arrivals (inr s) h =
    subst (Each Q) (sym s.2) (f found s.0 s.3 h.0, each_shown tnfa places P Q f all s.1 s.4 h.1)

pairs_shown : (tnfa : Tnfa) (places : List Place) (P : Found → Found → Type 0) (Q : Arrival → Arrival → Type 0)
    → ((found other : Found) (arrival next : Arrival) → IsShown tnfa places found arrival → IsShown tnfa places other next → P found other → Q arrival next)
    → (all : List Found) (arrivals : List Arrival) → Shows tnfa places all arrivals → AllPairs P all → AllPairs Q arrivals
pairs_shown tnfa places P Q f [] arrivals s h = subst (AllPairs Q) (sym s) (λ i j d lt within. absurd (omega arith))
pairs_shown tnfa places P Q f (found ∷ all) arrivals (inl s) h =
    pairs_shown tnfa places P Q f all arrivals s.1 (λ i j d lt within. h (suc i) (suc j) d (omega arith) (omega arith))
pairs_shown tnfa places P Q f (found ∷ all) arrivals (inr s) h =
    subst (AllPairs Q) (sym s.2)
    (AllPairs-cons Q s.0 s.1
    (All-from_each (Q s.0) s.1
    (each_shown tnfa places (P found) (Q s.0) (λ other next is p. f found other s.0 next s.3 is p) all s.1 s.4
    (Each-from_all (P found) all (λ k d lt. h 0 (suc k) d (omega arith) (omega arith)))))
    (pairs_shown tnfa places P Q f all s.1 s.4 (λ i j d lt within. h (suc i) (suc j) d (omega arith) (omega arith))))

abbrev target_or : Stop → Target → Target
target_or (AtState number) default = default
target_or (AtTarget target) default = target

pub target_same : (target other : Target) → stop_number (AtTarget target) ≡ stop_number (AtTarget other) → target ≡ other
target_same target other e = ap (λ s. target_or s target) (stop_same (AtTarget target) (AtTarget other) e)

state_or_target : (number : ℕ) (target : Target) → stop_number (AtState number) ≡ stop_number (AtTarget target) → ⊥
state_or_target number (Leaf place) e = omega (arith, e)
state_or_target number (End rule) e = omega (arith, e)

target_shown : (tnfa : Tnfa) (places : List Place) (target : Target) (all : List Found) (arrivals : List Arrival) (found : Found)
    → Shows tnfa places all arrivals → IsListed all found → found.state ≡ stop_number (AtTarget target)
    → Contains (map (λ (arrival : Arrival). arrival.to) arrivals) target
target_shown tnfa places target [] arrivals found s m e = absurd m
target_shown tnfa places target (other ∷ all) arrivals found (inl s) (inl same) e =
    absurd (state_or_target s.0.0 target (sym s.0.1 ∙ ap (λ (f : Found). f.state) same ∙ e))
target_shown tnfa places target (other ∷ all) arrivals found (inl s) (inr m) e = target_shown tnfa places target all arrivals found s.1 m e
target_shown tnfa places target (other ∷ all) arrivals found (inr s) (inl same) e =
    let is = target_same s.0.to target (sym s.3.state ∙ ap (λ (f : Found). f.state) same ∙ e) in
    subst (λ l. Contains (map (λ (arrival : Arrival). arrival.to) l) target) (sym s.2) (0, omega arith, is)
target_shown tnfa places target (other ∷ all) arrivals found (inr s) (inr m) e =
    let r = target_shown tnfa places target all s.1 found s.4 m e in
    subst (λ l. Contains (map (λ (arrival : Arrival). arrival.to) l) target) (sym s.2) (suc r.0, omega (arith, r.1), r.2)

-- the law: what a search lists shows the least plain walks
pub search_least : (tnfa : Tnfa) → 0 < length tnfa.states → (places : List Place) (all : List Found) (arrivals : List Arrival)
    → IsSearchFrom (stop_graph tnfa) (dead_stops tnfa) (begin_numbers tnfa places) all → Shows tnfa places all arrivals
    → AreLeastWalks tnfa places arrivals
search_least tnfa some places all arrivals is s = record {
  plain =
      All-from_each (IsPlainWalk tnfa places) arrivals
      (each_shown tnfa places (λ found. Unit {0}) (IsPlainWalk tnfa places) (λ found arrival shown u. shown.plain) all arrivals s
      (Each-from_all (λ found. Unit {0}) all (λ k d lt. tt)));
  once =
      pairs_shown tnfa places (λ found other. found.state ≡ other.state → ⊥) (λ arrival other. arrival.to ≢ other.to)
      (λ found other arrival next one two differ same.
      differ (one.state ∙ ap (λ t. stop_number (AtTarget t)) same ∙ sym two.state)) all arrivals s is.once;
  complete = λ other plain.
      let path = plain_path tnfa some places other plain in
      let listed = listed_of all (stop_number (AtTarget other.to)) (is.complete (other.from ∷ other.choices) path.0 (stop_number (AtTarget other.to)) path.1 path.3) in
      target_shown tnfa places other.to all arrivals listed.0 s listed.1 listed.2;
  least =
      All-from_each (λ (arrival : Arrival). (other : Arrival) → IsPlainWalk tnfa places other → other.to ≡ arrival.to → ¬ ComesBefore other arrival) arrivals
      (each_shown tnfa places
      (λ found. (ws ss : List ℕ) → PathFrom (stop_graph tnfa) (begin_numbers tnfa places) ws ss found.state → IsSimple ss → Avoids (dead_stops tnfa) ss
      → IsBefore ws found.choices → ⊥)
      (λ arrival. (other : Arrival) → IsPlainWalk tnfa places other → other.to ≡ arrival.to → ¬ ComesBefore other arrival)
      (λ found arrival shown none other plain same before.
      let path = plain_path tnfa some places other plain in
      let last = ap (λ t. stop_number (AtTarget t)) same ∙ sym shown.state in
      none (other.from ∷ other.choices) path.0
      (subst (PathFrom (stop_graph tnfa) (begin_numbers tnfa places) (other.from ∷ other.choices) path.0) last path.1) path.2 path.3
      (subst (IsBefore (other.from ∷ other.choices)) (sym shown.choices) before)) all arrivals s
      (Each-from_all _ all is.least));
  order =
      pairs_shown tnfa places (λ found other. IsBefore found.choices other.choices) ComesBefore
      (λ found other arrival next one two before.
      subst (IsBefore (arrival.from ∷ arrival.choices)) two.choices (subst (λ c. IsBefore c other.choices) one.choices before)) all arrivals s is.order;
}
