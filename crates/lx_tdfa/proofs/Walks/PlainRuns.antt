-- Plain walks from places as plain walks from the stops of a list: from the start they begin where the rules do.
use Rattle.std.proofs.Common.{◌≡◌, ◌≢◌, ℕ, zero, suc, ◌<◌, ◌⊎◌, inl, inr, arith, Bool, true, false, List, [], ◌∷◌, ◌++◌, map, refl, sym, ap, ◌∙◌, subst, Some}
use Rattle.std.proofs.lemmas.List.Kept.{AllPairs-cons}
use Rattle.std.specs.Prelude.{AllPairs, slice_get}
use Rattle.lx_regex.specs.Dictionary.{IsBefore}
use Rattle.lx_regex.specs.Term.{Term}
use Rattle.lx_tnfa.specs.Closure.{Arrival, ComesBefore, IsDead, IsPlainWalk, IsWalk, Step, beginning_at, beginning_of, steps_from, stop_at}
use Rattle.lx_tnfa.specs.LeafReadings.{IsNth}
use Rattle.lx_tnfa.specs.Live.{at_end}
use Rattle.lx_tnfa.specs.Tnfa.{Tnfa}
use Rattle.lx_tnfa.specs.declared.closure.Stop.{Stop}
use Rattle.lx_tnfa.specs.declared.closure.Stop.TheVariants.{AtState, AtTarget}
use Rattle.lx_tnfa.specs.declared.closure.Target.{Target}
use Rattle.lx_tnfa.specs.declared.places.Place.{Place}
use Rattle.lx_tnfa.specs.declared.states.Event.{Event}
use Rattle.lx_tnfa.proofs.Construction.NthLists.{nth_map, nth_unmap}
use Rattle.lx_tnfa.proofs.Searching.SearchBasics.{Each}
use Rattle.lx_tnfa.proofs.Searching.SearchPaths.{All-from_each, Each-from_all}
use Rattle.lx_tdfa.specs.Steps.{start_place}
use Rattle.lx_tdfa.proofs.Walks.ClosureSearches.{IsSource}
use Rattle.lx_tdfa.proofs.WordKernels.OrderedLists.{IsRising, each_member, nth_member}
use Rattle.lx_tdfa.proofs.Walks.StopSteps.{Holds, IsStep, by_move, by_start, get_nth, nth_get, reaches_alive, rule_at, state_moves, step_is}

pub rising_pairs : {X : Type 0} (L : X → X → Type 0) (xs : List X) → AllPairs L xs → IsRising L xs
rising_pairs L [] h = tt
rising_pairs L (x ∷ xs) h = (
  Each-from_all (L x) xs (λ k d lt. h 0 (suc k) d (omega arith) (omega arith)),
  rising_pairs L xs (λ i j d lt within. h (suc i) (suc j) d (omega arith) (omega arith)),
)

pairs_rising : {X : Type 0} (L : X → X → Type 0) (xs : List X) → IsRising L xs → AllPairs L xs
pairs_rising L [] h = λ i j d lt within. absurd (omega arith)
pairs_rising L (x ∷ xs) h = AllPairs-cons L x xs (All-from_each (L x) xs h.0) (pairs_rising L xs h.1)

-- a plain walk from the stop with this index
pub record Run (tnfa : Tnfa) (stops : List Stop) (index : ℕ) (choices : List ℕ) (events : List Event) (end : Target) : Type 0 where
  pub stop : Stop
  pub at : IsNth stops index stop
  pub visited : List Stop
  pub walk : IsWalk tnfa stop choices visited events (AtTarget end)
  pub once : IsRising (λ (a b : Stop). a ≢ b) visited
  pub live : Each (λ (stop : Stop). ¬ IsDead tnfa stop) visited

-- the arrival of a walk with this key
pub record Arrives (tnfa : Tnfa) (kernel : List Place) (key : Arrival → List ℕ) (index : ℕ) (choices : List ℕ) (events : List Event) (end : Target) : Type 0 where
  pub arrival : Arrival
  pub plain : IsPlainWalk tnfa kernel arrival
  pub key_is : key arrival ≡ index ∷ choices
  pub events_are : arrival.events ≡ events
  pub to : arrival.to ≡ end

-- the walk of an arrival
pub record Runs (tnfa : Tnfa) (stops : List Stop) (first : Bool) (key : List ℕ) (arrival : Arrival) : Type 0 where
  pub index : ℕ
  pub choices : List ℕ
  pub key_is : key ≡ index ∷ choices
  pub source : IsSource first index arrival.from
  pub run : Run tnfa stops index choices arrival.events arrival.to

-- plain walks from places are those from these stops, and their keys have the same order
pub record Keyed (tnfa : Tnfa) (kernel : List Place) (first : Bool) (stops : List Stop) (key : Arrival → List ℕ) : Type 0 where
  pub runs : (arrival : Arrival) → IsPlainWalk tnfa kernel arrival → Runs tnfa stops first (key arrival) arrival
  pub arrives : (index : ℕ) (choices : List ℕ) (events : List Event) (end : Target) → Run tnfa stops index choices events end
      → Arrives tnfa kernel key index choices events end
  pub before : (arrival other : Arrival) → IsPlainWalk tnfa kernel arrival → IsPlainWalk tnfa kernel other → ComesBefore arrival other
      → IsBefore (key arrival) (key other)
  pub behind : (arrival other : Arrival) → IsPlainWalk tnfa kernel arrival → IsPlainWalk tnfa kernel other
      → IsBefore (key arrival) (key other) → ComesBefore arrival other

-- the key of an arrival: from where, and then the choices; from the start the choices alone
abbrev pub full_key : Arrival → List ℕ
full_key arrival = arrival.from ∷ arrival.choices

abbrev pub short_key : Arrival → List ℕ
short_key arrival = arrival.choices

pub places_keyed : (tnfa : Tnfa) (kernel : List Place) → Keyed tnfa kernel false (map (beginning_of tnfa) kernel) full_key
places_keyed tnfa kernel = record {
  runs = λ arrival plain. record {
    index = arrival.from;
    choices = arrival.choices;
    key_is = refl;
    source = refl;
    run = record {
      stop = beginning_of tnfa plain.place;
      at = nth_map (beginning_of tnfa) kernel arrival.from plain.place (get_nth kernel arrival.from plain.place plain.begins);
      visited = plain.visited;
      walk = plain.walk;
      once = rising_pairs (λ (a b : Stop). a ≢ b) plain.visited plain.once;
      live = Each-from_all (λ (stop : Stop). ¬ IsDead tnfa stop) plain.visited plain.live;
    };
  };
  arrives = λ index choices events end run.
      let from = nth_unmap (beginning_of tnfa) kernel index run.stop run.at in record {
        arrival = record { from = index; choices = choices; events = events; to = end };
        plain = record {
          place = from.0;
          begins = nth_get kernel index from.0 from.1;
          visited = run.visited;
          walk = subst (λ s. IsWalk tnfa s choices run.visited events (AtTarget end)) (sym from.2) run.walk;
          once = pairs_rising (λ (a b : Stop). a ≢ b) run.visited run.once;
          live = All-from_each (λ (stop : Stop). ¬ IsDead tnfa stop) run.visited run.live;
        };
        key_is = refl;
        events_are = refl;
        to = refl;
      };
  before = λ arrival other plain also before. before;
  behind = λ arrival other plain also before. before;
}

module _ (tnfa : Tnfa) (rules : List Term) (is : Holds tnfa rules) where
  start_begins : beginning_of tnfa start_place ≡ AtState 0
  start_begins = ap (λ s. beginning_at tnfa.classes s start_place) (state_moves tnfa rules is 0 [] refl)

  -- no walk comes back to state 0
  apart_zero : (from : Stop) (choice : ℕ) (step : Step) → AtState 0 ≢ from → slice_get (steps_from tnfa from) choice ≡ Some step
      → AtState 0 ≢ step.to
  apart_zero (AtTarget target) choice step ne get = cc
  apart_zero (AtState zero) choice step ne get = absurd (ne refl)
  apart_zero (AtState (suc number)) choice step ne get = at (step_is tnfa rules is (suc number) choice step (omega arith) get)
    where
      moved : (rule to : ℕ) → AtState 0 ≢ stop_at rule to
      moved rule zero e = cc
      moved rule (suc to) e = cc

      at : IsStep tnfa rules is (suc number) choice step → AtState 0 ≢ step.to
      at (by_move to edge same) e = moved (rule_at tnfa rules is (suc number)) to (e ∙ ap (λ (s : Step). s.to) same)
      at (by_start rest nth same) e = let k = e ∙ ap (λ (s : Step). s.to) same in cc

  never_zero : (from : Stop) (choices : List ℕ) (visited : List Stop) (events : List Event) (to : Stop) → AtState 0 ≢ from
      → IsWalk tnfa from choices visited events to → Each (λ (stop : Stop). AtState 0 ≢ stop) visited
  never_zero from [] visited events to ne walk = subst (Each (λ (stop : Stop). AtState 0 ≢ stop)) (sym walk.0) (ne, tt)
  never_zero from (choice ∷ choices) visited events to ne walk =
      subst (Each (λ (stop : Stop). AtState 0 ≢ stop)) (sym walk.4)
      (ne, never_zero walk.0.to choices walk.1 walk.2 to (apart_zero from choice walk.0 ne walk.3) walk.6)

  only_start : (from : ℕ) (place : Place) → slice_get (start_place ∷ []) from ≡ Some place → (from ≡ 0) × (start_place ≡ place)
  only_start zero place e = (refl, cc)
  only_start (suc from) place e = cc

  abbrev begin_step : ℕ → Step
  begin_step begin = record { to = AtState begin; events = [] }

  start_runs : (arrival : Arrival) (choices : List ℕ) (visited : List Stop) → arrival.choices ≡ choices
      → IsWalk tnfa (AtState 0) choices visited arrival.events (AtTarget arrival.to)
      → IsRising (λ (a b : Stop). a ≢ b) visited → Each (λ (stop : Stop). ¬ IsDead tnfa stop) visited
      → Runs tnfa (map AtState tnfa.begins) true arrival.choices arrival
  start_runs arrival [] visited same walk once live = let e = walk.2 in cc
  start_runs arrival (choice ∷ choices) visited same walk once live =
      let begin = nth_unmap begin_step tnfa.begins choice walk.0 (get_nth (map begin_step tnfa.begins) choice walk.0 walk.3) in record {
        index = choice;
        choices = choices;
        key_is = same;
        source = tt;
        run = record {
          stop = AtState begin.0;
          at = nth_map AtState tnfa.begins choice begin.0 begin.1;
          visited = walk.1;
          walk =
              subst (λ e. IsWalk tnfa (AtState begin.0) choices walk.1 e (AtTarget arrival.to))
              (ap (λ (s : Step). s.events ++ walk.2) begin.2 ∙ sym walk.5)
              (subst (λ (s : Step). IsWalk tnfa s.to choices walk.1 walk.2 (AtTarget arrival.to)) (sym begin.2) walk.6);
          once = (subst (IsRising (λ (a b : Stop). a ≢ b)) walk.4 once).1;
          live = (subst (Each (λ (stop : Stop). ¬ IsDead tnfa stop)) walk.4 live).1;
        };
      }

  from_zero : (arrival : Arrival) → IsPlainWalk tnfa (start_place ∷ []) arrival → arrival.from ≡ 0
  from_zero arrival plain = (only_start arrival.from plain.place plain.begins).0

  pub start_keyed : Each (λ begin. 0 < begin) tnfa.begins → Keyed tnfa (start_place ∷ []) true (map AtState tnfa.begins) short_key
  start_keyed above = record {
    runs = λ arrival plain.
        let place = (only_start arrival.from plain.place plain.begins).1 in
        let walk =
        subst (λ s. IsWalk tnfa s arrival.choices plain.visited arrival.events (AtTarget arrival.to))
        (sym (ap (beginning_of tnfa) place) ∙ start_begins) plain.walk in
        start_runs arrival arrival.choices plain.visited refl walk (rising_pairs (λ (a b : Stop). a ≢ b) plain.visited plain.once)
        (Each-from_all (λ (stop : Stop). ¬ IsDead tnfa stop) plain.visited plain.live);
    arrives = λ index choices events end run.
        let begin = nth_unmap AtState tnfa.begins index run.stop run.at in
        let pos = each_member (λ n. 0 < n) tnfa.begins begin.0 above (nth_member tnfa.begins index begin.0 begin.1) in
        let walk : IsWalk tnfa (AtState begin.0) choices run.visited events (AtTarget end) =
        subst (λ s. IsWalk tnfa s choices run.visited events (AtTarget end)) (sym begin.2) run.walk in
        let whole : IsWalk tnfa (AtState 0) (index ∷ choices) (AtState 0 ∷ run.visited) events (AtTarget end) = (
          begin_step begin.0,
          run.visited,
          events,
          nth_get (map begin_step tnfa.begins) index (begin_step begin.0) (nth_map begin_step tnfa.begins index begin.0 begin.1),
          refl,
          refl,
          walk,
        ) in record {
          arrival = record { from = 0; choices = index ∷ choices; events = events; to = end };
          plain = record {
            place = start_place;
            begins = refl;
            visited = AtState 0 ∷ run.visited;
            walk = subst (λ s. IsWalk tnfa s (index ∷ choices) (AtState 0 ∷ run.visited) events (AtTarget end)) (sym start_begins) whole;
            once =
                pairs_rising (λ (a b : Stop). a ≢ b) (AtState 0 ∷ run.visited)
                (never_zero (AtState begin.0) choices run.visited events (AtTarget end) (positive begin.0 pos) walk, run.once);
            live =
                All-from_each (λ (stop : Stop). ¬ IsDead tnfa stop) (AtState 0 ∷ run.visited) (reaches_alive tnfa rules is 0 at_end, run.live);
          };
          key_is = refl;
          events_are = refl;
          to = refl;
        };
    before = λ arrival other plain also before. later arrival.from other.from arrival.choices other.choices (from_zero arrival plain) (from_zero other also) before;
    behind = λ arrival other plain also before. inr (from_zero arrival plain ∙ sym (from_zero other also), before);
  }
    where
      positive : (begin : ℕ) → 0 < begin → AtState 0 ≢ AtState begin
      positive zero lt e = omega arith
      positive (suc begin) lt e = cc

      later : (a b : ℕ) (cs ds : List ℕ) → a ≡ 0 → b ≡ 0 → (a < b) ⊎ ((a ≡ b) × IsBefore cs ds) → IsBefore cs ds
      later a b cs ds p q (inl lt) = absurd (omega (arith, lt, p, q))
      later a b cs ds p q (inr r) = r.1
