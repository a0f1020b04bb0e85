-- The search with a stack of stops that wait.
use Rattle.std.proofs.Common.{◌≡◌, ℕ, zero, suc, ◌+◌, ◌<◌, ◌⊎◌, inl, inr, arith, List, [], ◌∷◌, ◌++◌, map, length, get_or, refl, sym, ap, ap₂, ◌∙◌, subst, append_assoc, append-nil, length-append, Some, None}
use Rattle.std.proofs.lemmas.List.{length-map, length-reverse, map-append, reverse-append, reverse-reverse}
use Rattle.std.specs.Prelude.{All, Contains, MatchOption, Option, reverse, slice_get}
use Rattle.lx_tnfa.specs.Closure.{Arrival, IsClosureOf, IsDead, IsWalk, beginning_of, steps_from, waiting_from, Step, Waiting}
use Rattle.lx_tnfa.specs.Tnfa.{Tnfa, IsPlace}
use Rattle.lx_tnfa.specs.declared.closure.Reach.{Reach}
use Rattle.lx_tnfa.specs.declared.closure.Stop.{Stop}
use Rattle.lx_tnfa.specs.declared.closure.Stop.TheVariants.{AtState, AtTarget}
use Rattle.lx_tnfa.specs.declared.closure.Target.{Target}
use Rattle.lx_tnfa.specs.declared.places.Place.{Place}
use Rattle.lx_tnfa.specs.declared.states.Event.{Event}
use Rattle.lx_tnfa.specs.DepthFirst.{Found, IsIn, successors, visited, search_from}
use Rattle.lx_tnfa.proofs.Searching.SearchBasics.{Each}
use Rattle.lx_tnfa.proofs.Searching.SearchBounds.{search_at, search_from-is_search}
use Rattle.lx_tnfa.proofs.Searching.SearchPaths.{Each-from_all}
use Rattle.lx_tnfa.proofs.Searching.SearchStack.{after_choices, found_by, found_by-new, found_by-seen, found_by-starts, stacked}
use Rattle.lx_tnfa.proofs.Searching.StopNumbers.{dead_from_listed, dead_stops, dead_to_listed, leads, stop_graph, stop_number, stop_same, stop_successors}
use Rattle.lx_tnfa.proofs.Construction.Membership.{behind, either_part, in_front, in_reverse}
use Rattle.lx_tnfa.proofs.Searching.LeastWalks.{IsFoundPath, Shows, begin_numbers, found_plain, search_least}

-- a stop that waits, one step on
abbrev pub one_step_on : Waiting → Step → Waiting
one_step_on waiting step = record { stop = step.to; events = waiting.events ++ step.events; from = waiting.from }

-- a walk with one step more
walk_on : (tnfa : Tnfa) (from : Stop) (choices : List ℕ) (passed : List Stop) (events : List Event) (to : Stop) (choice : ℕ) (step : Step)
    → IsWalk tnfa from choices passed events to → slice_get (steps_from tnfa to) choice ≡ Some step
    → IsWalk tnfa from (choices ++ choice ∷ []) (passed ++ step.to ∷ []) (events ++ step.events) step.to
walk_on tnfa from [] passed events to choice step w get = (
  step,
  step.to ∷ [],
  [],
  subst (λ s. slice_get (steps_from tnfa s) choice ≡ Some step) (sym w.2) get,
  ap (λ p. p ++ step.to ∷ []) w.0,
  ap (λ e. e ++ step.events) w.1 ∙ sym (append-nil step.events),
  (refl, refl, refl),
)
walk_on tnfa from (first ∷ choices) passed events to choice step w get = (
  w.0,
  w.1 ++ step.to ∷ [],
  w.2 ++ step.events,
  w.3,
  ap (λ p. p ++ step.to ∷ []) w.4,
  ap (λ e. e ++ step.events) w.5 ∙ append_assoc w.0.events w.2 step.events,
  walk_on tnfa w.0.to choices w.1 w.2 to choice step w.6 get,
)

-- a stop waits for what is to be found: by a walk of the same choices
pub record IsWaitingFor (tnfa : Tnfa) (places : List Place) (found : Found) (waiting : Waiting) : Type 0 where
  pub state : found.state ≡ stop_number waiting.stop
  pub place : Place
  pub begins : slice_get places waiting.from ≡ Some place
  pub choices : List ℕ
  pub chosen : found.choices ≡ waiting.from ∷ choices
  pub passed : List Stop
  pub walk : IsWalk tnfa (beginning_of tnfa place) choices passed waiting.events waiting.stop

abbrev pub WaitsFor : Tnfa → List Place → List Found → List Waiting → Type 0
WaitsFor tnfa places [] [] = Unit {0}
WaitsFor tnfa places [] (waiting ∷ others) = ⊥
WaitsFor tnfa places (found ∷ stack) [] = ⊥
WaitsFor tnfa places (found ∷ stack) (waiting ∷ others) = IsWaitingFor tnfa places found waiting × WaitsFor tnfa places stack others

waits_append : (tnfa : Tnfa) (places : List Place) (stack more : List Found) (waiting others : List Waiting) → WaitsFor tnfa places stack waiting
    → WaitsFor tnfa places more others → WaitsFor tnfa places (stack ++ more) (waiting ++ others)
waits_append tnfa places [] more [] others w v = v
waits_append tnfa places [] more (next ∷ waiting) others w v = absurd w
waits_append tnfa places (found ∷ stack) more [] others w v = absurd w
waits_append tnfa places (found ∷ stack) more (next ∷ waiting) others w v = (w.0, waits_append tnfa places stack more waiting others w.1 v)

-- the steps from a stop wait for its children
children_wait : (tnfa : Tnfa) (places : List Place) (found : Found) (waiting : Waiting) → IsWaitingFor tnfa places found waiting
    → (steps : List Step) (first : ℕ) → ((place : ℕ) (step : Step) → slice_get steps place ≡ Some step → slice_get (steps_from tnfa waiting.stop) (first + place) ≡ Some step)
    → WaitsFor tnfa places (stacked found.choices (leads steps) first) (map (one_step_on waiting) steps)
children_wait tnfa places found waiting w [] first are = tt
children_wait tnfa places found waiting w (step ∷ steps) first are =
    let here : first + 0 ≡ first = omega arith in (
      record {
        state = refl;
        place = w.place;
        begins = w.begins;
        choices = w.choices ++ first ∷ [];
        chosen = ap (λ c. c ++ first ∷ []) w.chosen;
        passed = w.passed ++ step.to ∷ [];
        walk =
            walk_on tnfa (beginning_of tnfa w.place) w.choices w.passed waiting.events waiting.stop first step w.walk
            (subst (λ n. slice_get (steps_from tnfa waiting.stop) n ≡ Some step) here (are 0 step refl));
      },
      children_wait tnfa places found waiting w steps (suc first)
          (λ place next is. let e : first + suc place ≡ suc first + place = omega arith in
          subst (λ n. slice_get (steps_from tnfa waiting.stop) n ≡ Some next) e (are (suc place) next is)),
    )

-- the walks from places wait for what the search begins with
begins_wait : (tnfa : Tnfa) (all places : List Place) (first : ℕ)
    → ((index : ℕ) (place : Place) → slice_get places index ≡ Some place → slice_get all (first + index) ≡ Some place)
    → WaitsFor tnfa all (stacked [] (begin_numbers tnfa places) first) (waiting_from tnfa first places)
begins_wait tnfa all [] first are = tt
begins_wait tnfa all (place ∷ places) first are =
    let here : first + 0 ≡ first = omega arith in (
      record {
        state = refl;
        place = place;
        begins = subst (λ n. slice_get all n ≡ Some place) here (are 0 place refl);
        choices = [];
        chosen = refl;
        passed = beginning_of tnfa place ∷ [];
        walk = (refl, refl, refl);
      },
      begins_wait tnfa all places (suc first)
          (λ index next is. let e : first + suc index ≡ suc first + index = omega arith in
          subst (λ n. slice_get all n ≡ Some next) e (are (suc index) next is)),
    )

-- the reaches that a list of found stops gives, in its order
abbrev pub reach_of : Waiting → Target → Reach
reach_of waiting to = record { to = to; events = waiting.events; from = waiting.from }

abbrev pub Gives : Tnfa → List Place → List Found → List Reach → Type 0
Gives tnfa places [] reaches = reaches ≡ []
Gives tnfa places (found ∷ done) reaches =
    (((number : ℕ) × (found.state ≡ stop_number (AtState number))) × Gives tnfa places done reaches)
    ⊎ ((waiting : Waiting) × (to : Target) × (others : List Reach) × (waiting.stop ≡ AtTarget to) × (reaches ≡ reach_of waiting to ∷ others)
    × IsWaitingFor tnfa places found waiting × Gives tnfa places done others)

gives_append : (tnfa : Tnfa) (places : List Place) (done more : List Found) (reaches others : List Reach) → Gives tnfa places done reaches
    → Gives tnfa places more others → Gives tnfa places (done ++ more) (reaches ++ others)
gives_append tnfa places [] more reaches others g h = subst (λ r. Gives tnfa places more (r ++ others)) (sym g) h
gives_append tnfa places (found ∷ done) more reaches others (inl g) h = inl (g.0, gives_append tnfa places done more reaches others g.1 h)
gives_append tnfa places (found ∷ done) more reaches others (inr g) h =
    inr (g.0, g.1, g.2 ++ others, g.3, ap (λ r. r ++ others) g.4, g.5, gives_append tnfa places done more g.2 others g.6 h)

-- the numbers of the stops visited, and of the dead ones
abbrev pub seen_numbers : Tnfa → List Stop → List ℕ
seen_numbers tnfa stops = reverse (map stop_number stops) ++ dead_stops tnfa

seen_more : (tnfa : Tnfa) (stops : List Stop) (stop : Stop) → seen_numbers tnfa (stops ++ stop ∷ []) ≡ stop_number stop ∷ seen_numbers tnfa stops
seen_more tnfa stops stop =
    ap (λ l. reverse l ++ dead_stops tnfa) (map-append stop_number stops (stop ∷ []))
    ∙ ap (λ l. l ++ dead_stops tnfa) (reverse-append (map stop_number stops) (stop_number stop ∷ []))

-- what a loop over stops that wait has done
pub record ClosureSoFar (tnfa : Tnfa) (places : List Place) (stops : List Stop) (waiting : List Waiting) (reaches : List Reach) : Type 0 where
  pub done : List Found
  pub stack : List Found
  pub all : done ++ found_by (stop_graph tnfa) (seen_numbers tnfa stops) stack ≡ search_from (stop_graph tnfa) (dead_stops tnfa) (begin_numbers tnfa places)
  pub waits : WaitsFor tnfa places stack (reverse waiting)
  pub gives : Gives tnfa places done reaches

-- the loop begins
pub closure_begin : (tnfa : Tnfa) (places : List Place) → ClosureSoFar tnfa places [] (reverse (waiting_from tnfa 0 places)) []
closure_begin tnfa places = record {
  done = [];
  stack = stacked [] (begin_numbers tnfa places) 0;
  all = found_by-starts (stop_graph tnfa) (dead_stops tnfa) (begin_numbers tnfa places);
  waits =
      subst (WaitsFor tnfa places (stacked [] (begin_numbers tnfa places) 0)) (sym (reverse-reverse (waiting_from tnfa 0 places)))
      (begins_wait tnfa places places 0 (λ index place is. let e : index ≡ 0 + index = omega arith in
      subst (λ n. slice_get places n ≡ Some place) e is));
  gives = refl;
}

-- the stop on top of those that wait
pub record OnTop (tnfa : Tnfa) (places : List Place) (stops : List Stop) (top : Waiting) (waiting : List Waiting) (reaches : List Reach) : Type 0 where
  pub done : List Found
  pub found : Found
  pub stack : List Found
  pub all : done ++ found_by (stop_graph tnfa) (seen_numbers tnfa stops) (found ∷ stack)
      ≡ search_from (stop_graph tnfa) (dead_stops tnfa) (begin_numbers tnfa places)
  pub here : IsWaitingFor tnfa places found top
  pub waits : WaitsFor tnfa places stack (reverse waiting)
  pub gives : Gives tnfa places done reaches

pub on_top : (tnfa : Tnfa) (places : List Place) (stops : List Stop) (top : Waiting) (old waiting : List Waiting) (reaches : List Reach)
    → old ≡ waiting ++ top ∷ [] → ClosureSoFar tnfa places stops old reaches → OnTop tnfa places stops top waiting reaches
on_top tnfa places stops top old waiting reaches is so =
    at so.stack so.all (subst (WaitsFor tnfa places so.stack) (ap reverse is ∙ reverse-append waiting (top ∷ [])) so.waits)
  where
    at : (stack : List Found)
        → so.done ++ found_by (stop_graph tnfa) (seen_numbers tnfa stops) stack ≡ search_from (stop_graph tnfa) (dead_stops tnfa) (begin_numbers tnfa places)
        → WaitsFor tnfa places stack (top ∷ reverse waiting) → OnTop tnfa places stops top waiting reaches
    at [] all w = absurd w
    at (found ∷ stack) all w =
        record { done = so.done; found = found; stack = stack; all = all; here = w.0; waits = w.1; gives = so.gives }

number_in : (stops : List Stop) (stop : Stop) → Contains stops stop → IsIn (map stop_number stops) (stop_number stop)
number_in [] stop c = absurd (omega (arith, c.1))
number_in (other ∷ stops) stop c = at c.0 c.1 c.2 (number_in stops stop)
  where
    at : (k : ℕ) → k < length (other ∷ stops) → get_or (other ∷ stops) k stop ≡ stop → (Contains stops stop → IsIn (map stop_number stops) (stop_number stop))
        → IsIn (map stop_number (other ∷ stops)) (stop_number stop)
    at zero lt e later = inl (ap stop_number e)
    at (suc k) lt e later = inr (later (k, omega arith, e))

in_number : (stops : List Stop) (stop : Stop) → IsIn (map stop_number stops) (stop_number stop) → Contains stops stop
in_number [] stop m = absurd m
in_number (other ∷ stops) stop (inl e) = (0, omega arith, stop_same other stop e)
in_number (other ∷ stops) stop (inr m) = let r = in_number stops stop m in (suc r.0, omega (arith, r.1), r.2)

seen_dead : (tnfa : Tnfa) (stops : List Stop) (stop : Stop) → IsDead tnfa stop → IsIn (seen_numbers tnfa stops) (stop_number stop)
seen_dead tnfa stops stop dead = behind (reverse (map stop_number stops)) (dead_stops tnfa) (stop_number stop) (dead_to_listed tnfa stop dead)

seen_visited : (tnfa : Tnfa) (stops : List Stop) (stop : Stop) → Contains stops stop → IsIn (seen_numbers tnfa stops) (stop_number stop)
seen_visited tnfa stops stop c =
    in_front (reverse (map stop_number stops)) (dead_stops tnfa) (stop_number stop)
    (in_reverse (map stop_number stops) (stop_number stop) (number_in stops stop c))

not_seen : (tnfa : Tnfa) (stops : List Stop) (stop : Stop) → ¬ IsDead tnfa stop → ¬ Contains stops stop
    → IsIn (seen_numbers tnfa stops) (stop_number stop) → ⊥
not_seen tnfa stops stop live new m = at (either_part (reverse (map stop_number stops)) (dead_stops tnfa) (stop_number stop) m)
  where
    at : IsIn (reverse (map stop_number stops)) (stop_number stop) ⊎ IsIn (dead_stops tnfa) (stop_number stop) → ⊥
    at (inl k) =
        new (in_number stops stop
        (subst (λ l. IsIn l (stop_number stop)) (reverse-reverse (map stop_number stops)) (in_reverse (reverse (map stop_number stops)) (stop_number stop) k)))
    at (inr k) = live (dead_from_listed tnfa stop k)

known_seen : (tnfa : Tnfa) (stops : List Stop) (stop : Stop) → (IsDead tnfa stop ⊎ Contains stops stop)
    → IsIn (seen_numbers tnfa stops) (stop_number stop)
known_seen tnfa stops stop (inl dead) = seen_dead tnfa stops stop dead
known_seen tnfa stops stop (inr there) = seen_visited tnfa stops stop there

-- a stop is dropped
pub closure_dropped : (tnfa : Tnfa) (places : List Place) (stops : List Stop) (top : Waiting) (waiting : List Waiting) (reaches : List Reach)
    → (IsDead tnfa top.stop ⊎ Contains stops top.stop) → OnTop tnfa places stops top waiting reaches → ClosureSoFar tnfa places stops waiting reaches
closure_dropped tnfa places stops top waiting reaches old on = record {
  done = on.done;
  stack = on.stack;
  all =
      ap (λ l. on.done ++ l) (sym (found_by-seen (stop_graph tnfa) (seen_numbers tnfa stops) on.found on.stack
      (subst (IsIn (seen_numbers tnfa stops)) (sym on.here.state) (known_seen tnfa stops top.stop old)))) ∙ on.all;
  waits = on.waits;
  gives = on.gives;
}

-- what is found by a stop that is visited
found_next : (tnfa : Tnfa) → 0 < length tnfa.states → (places : List Place) (stops : List Stop) (top : Waiting) (waiting : List Waiting) (reaches : List Reach)
    → ¬ IsDead tnfa top.stop → ¬ Contains stops top.stop → (on : OnTop tnfa places stops top waiting reaches)
    → (on.done ++ on.found ∷ []) ++ found_by (stop_graph tnfa) (seen_numbers tnfa (stops ++ top.stop ∷ []))
    (stacked on.found.choices (leads (steps_from tnfa top.stop)) 0 ++ on.stack)
    ≡ search_from (stop_graph tnfa) (dead_stops tnfa) (begin_numbers tnfa places)
found_next tnfa some places stops top waiting reaches live new on =
    let graph = stop_graph tnfa in
    let seen = seen_numbers tnfa stops in
    let fresh : IsIn seen on.found.state → ⊥ = λ m. not_seen tnfa stops top.stop live new (subst (IsIn seen) on.here.state m) in
    let next = found_by-new graph seen on.found on.stack fresh in
    let rows : successors graph on.found.state ≡ leads (steps_from tnfa top.stop) =
    ap (successors graph) on.here.state ∙ stop_successors tnfa some top.stop in
    append_assoc on.done (on.found ∷ []) (found_by graph (seen_numbers tnfa (stops ++ top.stop ∷ []))
    (stacked on.found.choices (leads (steps_from tnfa top.stop)) 0 ++ on.stack))
    ∙ ap₂ (λ s r. on.done ++ on.found ∷ found_by graph s (stacked on.found.choices r 0 ++ on.stack))
    (seen_more tnfa stops top.stop ∙ ap (λ n. n ∷ seen) (sym on.here.state)) (sym rows)
    ∙ ap (λ l. on.done ++ l) (sym next) ∙ on.all

-- the steps from the stop on top wait for what is next on the stack
steps_wait : (tnfa : Tnfa) (places : List Place) (stops : List Stop) (top : Waiting) (waiting more : List Waiting) (reaches : List Reach)
    → more ≡ waiting ++ reverse (map (one_step_on top) (steps_from tnfa top.stop)) → (on : OnTop tnfa places stops top waiting reaches)
    → WaitsFor tnfa places (stacked on.found.choices (leads (steps_from tnfa top.stop)) 0 ++ on.stack) (reverse more)
steps_wait tnfa places stops top waiting more reaches is on =
    let steps = steps_from tnfa top.stop in
    let turned : reverse more ≡ map (one_step_on top) steps ++ reverse waiting =
    ap reverse is ∙ reverse-append waiting (reverse (map (one_step_on top) steps))
    ∙ ap (λ l. l ++ reverse waiting) (reverse-reverse (map (one_step_on top) steps)) in
    subst (WaitsFor tnfa places (stacked on.found.choices (leads steps) 0 ++ on.stack)) (sym turned)
    (waits_append tnfa places (stacked on.found.choices (leads steps) 0) on.stack (map (one_step_on top) steps) (reverse waiting)
    (children_wait tnfa places on.found top on.here steps 0
    (λ place step got. let e : place ≡ 0 + place = omega arith in subst (λ n. slice_get steps n ≡ Some step) e got)) on.waits)

-- a state is visited
pub closure_state : (tnfa : Tnfa) → 0 < length tnfa.states → (places : List Place) (stops : List Stop) (top : Waiting) (waiting more : List Waiting)
    (reaches : List Reach) (number : ℕ) → top.stop ≡ AtState number → ¬ IsDead tnfa top.stop → ¬ Contains stops top.stop
    → more ≡ waiting ++ reverse (map (one_step_on top) (steps_from tnfa top.stop)) → OnTop tnfa places stops top waiting reaches
    → ClosureSoFar tnfa places (stops ++ top.stop ∷ []) more reaches
closure_state tnfa some places stops top waiting more reaches number at live new is on =
    let steps = steps_from tnfa top.stop in record {
      done = on.done ++ on.found ∷ [];
      stack = stacked on.found.choices (leads steps) 0 ++ on.stack;
      all = found_next tnfa some places stops top waiting reaches live new on;
      waits = steps_wait tnfa places stops top waiting more reaches is on;
      gives =
          subst (Gives tnfa places (on.done ++ on.found ∷ [])) (append-nil reaches)
          (gives_append tnfa places on.done (on.found ∷ []) reaches [] on.gives (inl ((number, on.here.state ∙ ap stop_number at), refl)));
    }

-- a target is visited
pub closure_target : (tnfa : Tnfa) → 0 < length tnfa.states → (places : List Place) (stops : List Stop) (top : Waiting) (waiting : List Waiting)
    (reaches more : List Reach) (target : Target) → top.stop ≡ AtTarget target → ¬ IsDead tnfa top.stop → ¬ Contains stops top.stop
    → more ≡ reaches ++ reach_of top target ∷ [] → OnTop tnfa places stops top waiting reaches
    → ClosureSoFar tnfa places (stops ++ top.stop ∷ []) waiting more
closure_target tnfa some places stops top waiting reaches more target at live new is on = record {
  done = on.done ++ on.found ∷ [];
  stack = on.stack;
  all =
      subst (λ s. (on.done ++ on.found ∷ []) ++ found_by (stop_graph tnfa) (seen_numbers tnfa (stops ++ top.stop ∷ []))
      (stacked on.found.choices (leads (steps_from tnfa s)) 0 ++ on.stack)
      ≡ search_from (stop_graph tnfa) (dead_stops tnfa) (begin_numbers tnfa places)) at
      (found_next tnfa some places stops top waiting reaches live new on);
  waits = on.waits;
  gives =
      subst (Gives tnfa places (on.done ++ on.found ∷ [])) (sym is)
      (gives_append tnfa places on.done (on.found ∷ []) reaches (reach_of top target ∷ []) on.gives
      (inr (top, target, [], at, refl, on.here, refl)));
}

-- all that was found, shown by what was given
given_shown : (tnfa : Tnfa) → 0 < length tnfa.states → (places : List Place) (all : List Found) (reaches : List Reach)
    → Each (λ found. IsFoundPath tnfa places found.choices found.state) all → Gives tnfa places all reaches
    → (arrivals : List Arrival) × Shows tnfa places all arrivals
    × (reaches ≡ map (λ (arrival : Arrival). record { to = arrival.to; events = arrival.events; from = arrival.from }) arrivals)
given_shown tnfa some places [] reaches paths gives = ([], refl, gives)
given_shown tnfa some places (found ∷ all) reaches paths (inl g) =
    let r = given_shown tnfa some places all reaches paths.1 g.1 in (r.0, inl (g.0, r.1), r.2)
given_shown tnfa some places (found ∷ all) reaches paths (inr g) =
    let r = given_shown tnfa some places all g.2 paths.1 g.6 in
    let w = g.5 in
    let walk = subst (IsWalk tnfa (beginning_of tnfa w.place) w.choices w.passed g.0.events) g.3 w.walk in
    let arrival : Arrival = record { from = g.0.from; choices = w.choices; events = g.0.events; to = g.1 } in (
      arrival ∷ r.0,
      inr (
        arrival,
        r.0,
        refl,
        record {
          state = w.state ∙ ap stop_number g.3;
          choices = w.chosen;
          plain = found_plain tnfa some places found paths.0 w.place g.0.from w.choices w.passed g.0.events g.1 w.begins w.chosen walk;
        },
        r.1,
      ),
      g.4 ∙ ap (λ l. reach_of g.0 g.1 ∷ l) r.2,
    )

-- the loop has come to its end
pub closure_end : (tnfa : Tnfa) → 0 < length tnfa.states → (places : List Place) (stops : List Stop) (reaches : List Reach)
    → ClosureSoFar tnfa places stops [] reaches → IsClosureOf tnfa places reaches
closure_end tnfa some places stops reaches so = at so.stack so.all so.waits
  where
    at : (stack : List Found)
        → so.done ++ found_by (stop_graph tnfa) (seen_numbers tnfa stops) stack ≡ search_from (stop_graph tnfa) (dead_stops tnfa) (begin_numbers tnfa places)
        → WaitsFor tnfa places stack [] → IsClosureOf tnfa places reaches
    at (found ∷ stack) all w = absurd w
    at [] all w =
        let whole = search_from (stop_graph tnfa) (dead_stops tnfa) (begin_numbers tnfa places) in
        let is = search_from-is_search (stop_graph tnfa) (dead_stops tnfa) (begin_numbers tnfa places) in
        let same : so.done ≡ whole = sym (append-nil so.done) ∙ all in
        let paths = Each-from_all (λ found. IsFoundPath tnfa places found.choices found.state) whole is.path in
        let r = given_shown tnfa some places whole reaches paths (subst (λ l. Gives tnfa places l reaches) same so.gives) in
        (r.0, search_least tnfa some places whole r.0 is r.1, r.2)

-- how many steps there are from what is still to be found
abbrev pub rows_left : List (List ℕ) → List Found → ℕ
rows_left graph [] = 0
rows_left graph (found ∷ all) = length (successors graph found.state) + rows_left graph all

-- a stop that waits, without the choices that lead to it
abbrev pub bare : Waiting → Found
bare waiting = record { state = stop_number waiting.stop; choices = [] }

-- how often the loop is still to be run
abbrev pub work_left : Tnfa → List Stop → List Waiting → ℕ
work_left tnfa stops waiting =
    length waiting + rows_left (stop_graph tnfa) (found_by (stop_graph tnfa) (seen_numbers tnfa stops) (map bare (reverse waiting)))

rows_append : (graph : List (List ℕ)) (xs ys : List Found) → rows_left graph (xs ++ ys) ≡ rows_left graph xs + rows_left graph ys
rows_append graph [] ys = omega arith
rows_append graph (found ∷ xs) ys =
    let r : rows_left graph (xs ++ ys) ≡ rows_left graph xs + rows_left graph ys = rows_append graph xs ys in omega (arith, r)

rows_after : (graph : List (List ℕ)) (choices : List ℕ) (xs : List Found) → rows_left graph (after_choices choices xs) ≡ rows_left graph xs
rows_after graph choices [] = refl
rows_after graph choices (found ∷ xs) = ap (λ n. length (successors graph found.state) + n) (rows_after graph choices xs)

rows_bare : (tnfa : Tnfa) (places : List Place) (graph : List (List ℕ)) (seen : List ℕ) (stack : List Found) (waiting : List Waiting)
    → WaitsFor tnfa places stack waiting → rows_left graph (found_by graph seen (map bare waiting)) ≡ rows_left graph (found_by graph seen stack)
rows_bare tnfa places graph seen [] [] w = refl
rows_bare tnfa places graph seen [] (next ∷ waiting) w = absurd w
rows_bare tnfa places graph seen (found ∷ stack) [] w = absurd w
rows_bare tnfa places graph seen (found ∷ stack) (next ∷ waiting) w =
    let own = search_at graph seen (stop_number next.stop) in
    let here = search_at graph seen found.state in
    let same : own ≡ here = ap (search_at graph seen) (sym w.0.state) in
    rows_append graph (after_choices [] own) (found_by graph (visited seen own) (map bare waiting))
    ∙ ap₂ (λ a b. a + b) (rows_after graph [] own) (rows_bare tnfa places graph (visited seen own) stack waiting w.1)
    ∙ ap (λ l. rows_left graph l + rows_left graph (found_by graph (visited seen l) stack)) same
    ∙ ap (λ n. n + rows_left graph (found_by graph (visited seen here) stack)) (sym (rows_after graph found.choices here))
    ∙ sym (rows_append graph (after_choices found.choices here) (found_by graph (visited seen here) stack))

-- the work before a stop is taken from the top
work_old : (tnfa : Tnfa) (places : List Place) (stops : List Stop) (top : Waiting) (old waiting : List Waiting) (reaches : List Reach)
    → old ≡ waiting ++ top ∷ [] → (on : OnTop tnfa places stops top waiting reaches)
    → work_left tnfa stops old
    ≡ suc (length waiting) + rows_left (stop_graph tnfa) (found_by (stop_graph tnfa) (seen_numbers tnfa stops) (on.found ∷ on.stack))
work_old tnfa places stops top old waiting reaches is on =
    let turned : reverse old ≡ top ∷ reverse waiting = ap reverse is ∙ reverse-append waiting (top ∷ []) in
    let count : length old ≡ suc (length waiting) = omega (arith, ap length is, length-append waiting (top ∷ [])) in
    ap₂ (λ n l. n + rows_left (stop_graph tnfa) (found_by (stop_graph tnfa) (seen_numbers tnfa stops) (map bare l))) count turned
    ∙ ap (λ n. suc (length waiting) + n)
    (rows_bare tnfa places (stop_graph tnfa) (seen_numbers tnfa stops) (on.found ∷ on.stack) (top ∷ reverse waiting) (on.here, on.waits))

pub work_dropped : (tnfa : Tnfa) (places : List Place) (stops : List Stop) (top : Waiting) (old waiting : List Waiting) (reaches : List Reach)
    → old ≡ waiting ++ top ∷ [] → (IsDead tnfa top.stop ⊎ Contains stops top.stop) → OnTop tnfa places stops top waiting reaches
    → work_left tnfa stops waiting < work_left tnfa stops old
work_dropped tnfa places stops top old waiting reaches is known on =
    let before = work_old tnfa places stops top old waiting reaches is on in
    let rows = rows_bare tnfa places (stop_graph tnfa) (seen_numbers tnfa stops) on.stack (reverse waiting) on.waits in
    let skipped = ap (rows_left (stop_graph tnfa)) (found_by-seen (stop_graph tnfa) (seen_numbers tnfa stops) on.found on.stack
    (subst (IsIn (seen_numbers tnfa stops)) (sym on.here.state) (known_seen tnfa stops top.stop known))) in
    omega (arith, before, rows, skipped)

-- the work after a stop is visited
pub work_visited : (tnfa : Tnfa) → 0 < length tnfa.states → (places : List Place) (stops : List Stop) (top : Waiting) (old waiting more : List Waiting)
    (reaches next : List Reach) → old ≡ waiting ++ top ∷ [] → ¬ IsDead tnfa top.stop → ¬ Contains stops top.stop
    → length more ≡ length waiting + length (steps_from tnfa top.stop)
    → (on : OnTop tnfa places stops top waiting reaches)
    → WaitsFor tnfa places (stacked on.found.choices (leads (steps_from tnfa top.stop)) 0 ++ on.stack) (reverse more)
    → work_left tnfa (stops ++ top.stop ∷ []) more < work_left tnfa stops old
work_visited tnfa some places stops top old waiting more reaches next is live new count on waits =
    let graph = stop_graph tnfa in
    let seen = seen_numbers tnfa stops in
    let children = stacked on.found.choices (leads (steps_from tnfa top.stop)) 0 ++ on.stack in
    let before = work_old tnfa places stops top old waiting reaches is on in
    let rows = rows_bare tnfa places graph (seen_numbers tnfa (stops ++ top.stop ∷ [])) children (reverse more) waits in
    let fresh : IsIn seen on.found.state → ⊥ = λ m. not_seen tnfa stops top.stop live new (subst (IsIn seen) on.here.state m) in
    let own : successors graph on.found.state ≡ leads (steps_from tnfa top.stop) =
    ap (successors graph) on.here.state ∙ stop_successors tnfa some top.stop in
    let found : found_by graph seen (on.found ∷ on.stack) ≡ on.found ∷ found_by graph (seen_numbers tnfa (stops ++ top.stop ∷ [])) children =
    found_by-new graph seen on.found on.stack fresh
    ∙ ap₂ (λ s r. on.found ∷ found_by graph s (stacked on.found.choices r 0 ++ on.stack))
    (ap (λ n. n ∷ seen) on.here.state ∙ sym (seen_more tnfa stops top.stop)) own in
    let split = ap (rows_left graph) found in
    let size = ap length own in
    let steps = length-map (steps_from tnfa top.stop) (λ (step : Step). stop_number step.to) in
    omega (arith, before, rows, split, size, steps, count)

pub work_state : (tnfa : Tnfa) → 0 < length tnfa.states → (places : List Place) (stops : List Stop) (top : Waiting) (old waiting more : List Waiting)
    (reaches : List Reach) → old ≡ waiting ++ top ∷ [] → ¬ IsDead tnfa top.stop → ¬ Contains stops top.stop
    → more ≡ waiting ++ reverse (map (one_step_on top) (steps_from tnfa top.stop)) → (on : OnTop tnfa places stops top waiting reaches)
    → work_left tnfa (stops ++ top.stop ∷ []) more < work_left tnfa stops old
work_state tnfa some places stops top old waiting more reaches is live new pushed on =
    let steps = steps_from tnfa top.stop in
    let count : length more ≡ length waiting + length steps =
    ap length pushed ∙ length-append waiting (reverse (map (one_step_on top) steps))
    ∙ ap (λ n. length waiting + n) (length-reverse (map (one_step_on top) steps) ∙ length-map steps (one_step_on top)) in
    work_visited tnfa some places stops top old waiting more reaches reaches is live new count on
    (steps_wait tnfa places stops top waiting more reaches pushed on)

pub work_target : (tnfa : Tnfa) → 0 < length tnfa.states → (places : List Place) (stops : List Stop) (top : Waiting) (old waiting : List Waiting)
    (reaches : List Reach) (target : Target) → old ≡ waiting ++ top ∷ [] → top.stop ≡ AtTarget target → ¬ IsDead tnfa top.stop → ¬ Contains stops top.stop
    → (on : OnTop tnfa places stops top waiting reaches) → work_left tnfa (stops ++ top.stop ∷ []) waiting < work_left tnfa stops old
work_target tnfa some places stops top old waiting reaches target is at live new on =
    let none : length (steps_from tnfa top.stop) ≡ length (steps_from tnfa (AtTarget target)) = ap (λ s. length (steps_from tnfa s)) at in
    work_visited tnfa some places stops top old waiting waiting reaches reaches is live new (omega (arith, none)) on
    (subst (λ s. WaitsFor tnfa places (stacked on.found.choices (leads (steps_from tnfa s)) 0 ++ on.stack) (reverse waiting)) (sym at) on.waits)

-- where there is a place there is a state
pub some_state : (tnfa : Tnfa) (places : List Place) → All (IsPlace tnfa) places → (from : ℕ) (place : Place) → slice_get places from ≡ Some place
    → 0 < length tnfa.states
some_state tnfa [] are from place is = cc
some_state tnfa (first ∷ places) are from place is =
    let at : IsPlace tnfa first = are 0 first (omega arith) in omega (arith, at.part)

pub top_some : (tnfa : Tnfa) (places : List Place) (stops : List Stop) (top : Waiting) (waiting : List Waiting) (reaches : List Reach)
    → All (IsPlace tnfa) places → OnTop tnfa places stops top waiting reaches → 0 < length tnfa.states
top_some tnfa places stops top waiting reaches are on = some_state tnfa places are top.from on.here.place on.here.begins

pub closure_whole : (tnfa : Tnfa) (places : List Place) (stops : List Stop) (reaches : List Reach) → All (IsPlace tnfa) places
    → ClosureSoFar tnfa places stops [] reaches → IsClosureOf tnfa places reaches
closure_whole tnfa [] stops reaches are so = at so.stack so.all so.waits
  where
    at : (stack : List Found)
        → so.done ++ found_by (stop_graph tnfa) (seen_numbers tnfa stops) stack ≡ []
        → WaitsFor tnfa [] stack [] → IsClosureOf tnfa [] reaches
    at (found ∷ stack) all w = absurd w
    at [] all w =
        let none : so.done ≡ [] = sym (append-nil so.done) ∙ all in
        let nothing : reaches ≡ [] = subst (λ l. Gives tnfa [] l reaches) none so.gives in (
          [],
          record {
            plain = λ k d lt. absurd (omega arith);
            once = λ i j d lt within. absurd (omega arith);
            complete = λ other plain. absurd (no_place other.from plain.place plain.begins);
            least = λ k d lt. absurd (omega arith);
            order = λ i j d lt within. absurd (omega arith);
          },
          nothing,
        )
      where
        no_place : (from : ℕ) (place : Place) → slice_get [] from ≡ Some place → ⊥
        no_place from place e = cc
closure_whole tnfa (place ∷ places) stops reaches are so =
    closure_end tnfa (some_state tnfa (place ∷ places) are 0 place refl) (place ∷ places) stops reaches so

-- nothing was taken from the end, so there was nothing
pub none_left : {X : Type 0} (result : Option X) (old : List X) (count rest : ℕ) → length old ≡ count
    → MatchOption result ((count ≡ 0) × (rest ≡ 0)) (λ top. rest + 1 ≡ count)
    → ((top : X) → result ≡ Some top → ⊥) → old ≡ []
none_left (Some top) old count rest is cases never = absurd (never top refl)
none_left None [] count rest is cases never = refl
none_left None (top ∷ old) count rest is cases never = absurd (omega (arith, is, cases.0))
