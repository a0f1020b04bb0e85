-- Plain walks of closures are those of walks over the automaton that visit no state twice, until their first unit.
use Rattle.std.proofs.Common.{◌≡◌, ℕ, zero, suc, ◌/◌, ◌<◌, Bool, true, false, inl, inr, ⊎_elim, List, [], ◌∷◌, ◌++◌, length, map, Some, refl, sym, ap, ap₂, ◌∙◌, subst, arith}
use Rattle.std.specs.Prelude.{◌≢◌, All, AllPairs, slice_get, slice_index}
use Rattle.std.proofs.lemmas.List.Kept.{AllPairs-cons}
use Rattle.std.proofs.lemmas.Option.{slice_get_within}
use Rattle.lx_base.specs.declared.settings.Enc.{Enc}
use Rattle.lx_encode.specs.Graph.{numbered}
use Rattle.lx_encode.specs.declared.graph.Residual.{Residual}
use Rattle.lx_regex.specs.Automaton as spec
use Rattle.lx_regex.specs.Automaton.{automaton, leaf, moves, target, unit_leaf}
use Rattle.lx_regex.specs.Pattern.{Pattern, terms_of}
use Rattle.lx_regex.specs.Walk.{IsAmong, first, next, Walk, stay, moved, at_point, at_unit}
use Rattle.lx_tnfa.specs.Classes.{AreClasses}
use Rattle.lx_tnfa.specs.Closure.{IsDead, IsWalk, Step, leaf_step, steps_from, steps_of, stop_at}
use Rattle.lx_tnfa.specs.DepthFirst.{IsIn, decide_in}
use Rattle.lx_tnfa.specs.Live.{mark_at, starts_at, state_of}
use Rattle.lx_tnfa.specs.Moves.{shown_move}
use Rattle.lx_tnfa.specs.PlainWalks.{VisitsOnce, first_states}
use Rattle.lx_tnfa.specs.Rows.{Represents}
use Rattle.lx_tnfa.specs.TakenWalks.{Takes, first_events, index_among}
use Rattle.lx_tnfa.specs.Tnfa.{HasMoves, IsTnfaOf, Tnfa}
use Rattle.lx_tnfa.specs.declared.classes.ClassGraph.{ClassGraph}
use Rattle.lx_tnfa.specs.declared.closure.Stop.{Stop}
use Rattle.lx_tnfa.specs.declared.closure.Stop.TheVariants.{AtState, AtTarget}
use Rattle.lx_tnfa.specs.declared.closure.Target.{Target}
use Rattle.lx_tnfa.specs.declared.closure.Target.TheVariants.{End, Leaf}
use Rattle.lx_tnfa.specs.declared.states.Event.{Event}
use Rattle.lx_tnfa.specs.declared.states.State.{State}
use Rattle.lx_tnfa.specs.declared.states.State.TheVariants as held
use Rattle.lx_tnfa.proofs.Liveness.LiveWalks.{reaches_walk, to_of}
use Rattle.lx_tnfa.proofs.Searching.SearchBasics.{Each}
use Rattle.lx_tnfa.proofs.Searching.SearchPaths.{All-from_each, Each-from_all}
use Rattle.lx_tnfa.proofs.Leaves.TableLeaves.{row_or_none}
use Rattle.lx_tnfa.proofs.Searching.TakenWalks.{states_once, stops_to}
use Rattle.lx_tnfa.proofs.Construction.WholeTable.{held_length}

-- ---- loops

apart_from : (state : ℕ) (states : List ℕ) → (IsIn states state → ⊥) → Each (λ other. state ≢ other) states
apart_from state [] none = tt
apart_from state (other ∷ states) none = (λ same. none (inl (sym same)), apart_from state states (λ later. none (inr later)))

module _ (rows : List spec.State) where
  -- a walk from this state that visits none twice
  abbrev Cut : ℕ → Type 0
  Cut state = (walk : Walk rows 0 state) × VisitsOnce walk

  -- the rest of a walk from a state that it visits before its first unit
  rest_from : (other : ℕ) {state : ℕ} (walk : Walk rows 0 state) → VisitsOnce walk → IsIn (first_states walk) other → Cut other
  rest_from other stay once among = absurd among
  rest_from other (moved {state = state} ways way stands among walk) once (inl same) = subst Cut same (moved ways way stands among walk, once)
  rest_from other (moved ways way stands among walk) once (inr later) = rest_from other walk once.1 later
  rest_from other (at_point {state = state} ranges number stands within walk) once (inl same) = subst Cut same (at_point ranges number stands within walk, once)
  rest_from other (at_point ranges number stands within walk) once (inr later) = absurd later
  rest_from other (at_unit {state = state} number stands walk) once (inl same) = subst Cut same (at_unit number stands walk, once)
  rest_from other (at_unit number stands walk) once (inr later) = absurd later

  -- one state more
  one_more : (state : ℕ) (ways : List spec.Move) (way : spec.Move) → slice_get rows state ≡ Some (moves ways) → IsAmong way ways → (cut : Cut (target way))
      → Dec (IsIn (first_states cut.0) state) → Cut state
  one_more state ways way stands among cut (yes again) = rest_from state cut.0 cut.1 again
  one_more state ways way stands among cut (no new) = (
    moved ways way stands among cut.0,
    (
      AllPairs-cons (λ (state other : ℕ). state ≢ other) state (first_states cut.0)
          (All-from_each (λ other. state ≢ other) (first_states cut.0) (apart_from state (first_states cut.0) new)) (states_once cut.0 cut.1),
      cut.1,
    ),
  )

  -- a walk without its loops
  without_loops : {state : ℕ} → Walk rows 0 state → Cut state
  without_loops stay = (stay, tt)
  without_loops (moved {state = state} ways way stands among walk) =
      let cut = without_loops walk in one_more state ways way stands among cut (decide_in (first_states cut.0) state)
  without_loops (at_point ranges number stands within walk) =
      let cut = without_loops walk in (at_point ranges number stands within cut.0, cut.1)
  without_loops (at_unit number stands walk) = let cut = without_loops walk in (at_unit number stands cut.0, cut.1)

-- ---- steps

-- a step by the moves of a state is one of the automaton's moves
move_of : (classes : List ClassGraph) (rule part choice : ℕ) (ways : List spec.Move) (step : Step)
    → slice_get (steps_of classes rule part (held.Moves (map shown_move ways))) choice ≡ Some step
    → (way : spec.Move) × (among : IsAmong way ways) × (index_among among ≡ choice)
    × (step ≡ record { to = stop_at rule (target way); events = (shown_move way).events })
move_of classes rule part choice [] step at = cc
move_of classes rule part zero (way ∷ ways) step at =
    let here : record { to = stop_at rule (shown_move way).to; events = (shown_move way).events } ≡ step = cc in
    (way, first, refl, sym here ∙ ap (λ (to : ℕ). let step : Step = record { to = stop_at rule to; events = (shown_move way).events } in step) (to_of way))
move_of classes rule part (suc choice) (way ∷ ways) step at =
    let later = move_of classes rule part choice ways step at in (later.0, next later.1, ap suc later.2, later.3)

-- a step from a leaf leads to a target, without events
leaf_of : (classes : List ClassGraph) (rule part choice : ℕ) (state : State) (step : Step) → (HasMoves state → ⊥)
    → slice_get (steps_of classes rule part state) choice ≡ Some step → (to : Target) × (step ≡ record { to = AtTarget to; events = [] })
leaf_of classes rule part choice (held.Moves ways) step never at = absurd (never tt)
leaf_of classes rule part choice (held.Class number) step never at = among choice (starts_at classes number) at
  where
    among : (choice : ℕ) (starts : List Residual) → slice_get (map (leaf_step part) starts) choice ≡ Some step
        → (to : Target) × (step ≡ record { to = AtTarget to; events = [] })
    among choice [] at = cc
    among zero (start ∷ starts) at = let here : leaf_step part start ≡ step = cc in (Leaf (record { part = part; rest = start }), sym here)
    among (suc choice) (start ∷ starts) at = among choice starts at
leaf_of classes rule part zero held.AnyUnit step never at = let here : leaf_step part (numbered 1) ≡ step = cc in (Leaf (record { part = part; rest = numbered 1 }), sym here)
leaf_of classes rule part (suc choice) held.AnyUnit step never at = cc

-- states are apart where their stops are
apart_back : (state : ℕ) (states : List ℕ) (to : Target) → Each (λ stop. AtState state ≢ stop) (stops_to states to) → Each (λ other. state ≢ other) states
apart_back state [] to h = tt
apart_back state (other ∷ states) to h = (λ same. h.0 (ap AtState same), apart_back state states to h.1)

-- nothing goes on from a target
record Stays (from to : Target) (choices : List ℕ) (visited : List Stop) (events : List Event) : Type 0 where
  none : choices ≡ []
  same : from ≡ to
  stops : visited ≡ AtTarget to ∷ []
  no_events : events ≡ []

stays : (tnfa : Tnfa) (from to : Target) (choices : List ℕ) (visited : List Stop) (events : List Event)
    → IsWalk tnfa (AtTarget from) choices visited events (AtTarget to) → Stays from to choices visited events
stays tnfa from to [] visited events walk =
    let same : from ≡ to = let stop = walk.2 in cc in
    record { none = refl; same = same; stops = walk.0 ∙ ap (λ target. AtTarget target ∷ []) same; no_events = walk.1 }
stays tnfa from to (choice ∷ choices) visited events walk = let at = walk.3 in cc

module _ (enc : Enc) (patterns : List Pattern) (tnfa : Tnfa) (is : IsTnfaOf enc patterns tnfa) where
  -- the walk over the automaton
  record Found (rule state : ℕ) (choices : List ℕ) (visited : List Stop) (events : List Event) (to : Target) : Type 0 where
    pub walk : Walk (automaton (terms_of patterns)) 0 state
    pub once : VisitsOnce walk
    pub takes : Takes tnfa rule walk choices to
    pub visits : visited ≡ stops_to (first_states walk) to
    pub has : events ≡ first_events walk

  -- from a state from which an end can be reached a walk leads on
  leads_on : (number : ℕ) (row : spec.State) → slice_get (automaton (terms_of patterns)) number ≡ Some row → (IsDead tnfa (AtState number) → ⊥)
      → Cut (automaton (terms_of patterns)) number
  leads_on number row at alive =
      let below : number < length (automaton (terms_of patterns)) = slice_get_within (automaton (terms_of patterns)) number row at in
      let count = held_length tnfa.classes (automaton (terms_of patterns)) tnfa.states is.states in
      let marks = is.marks in
      let are = subst (λ e. AreClasses e tnfa.classes) (sym is.enc) is.classes in
      without_loops (automaton (terms_of patterns))
      (reaches_walk tnfa (terms_of patterns) are is.states number
      ((is.live number (omega (arith, below, count))).0 (marked (mark_at tnfa.live number) refl (omega (arith, below, count, marks)))))
    where
      marked : (mark : Bool) → mark_at tnfa.live number ≡ mark → number < length tnfa.live → mark_at tnfa.live number ≡ true
      marked true e within = e
      marked false e within = absurd (alive (within, e))

  by_move : (rule number : ℕ) (ways : List spec.Move) (way : spec.Move) → slice_get (automaton (terms_of patterns)) (suc number) ≡ Some (moves ways)
      → (among : IsAmong way ways) (later : List ℕ) (others : List Stop) (more : List Event) (to : Target)
      → AllPairs (λ (stop other : Stop). stop ≢ other) (AtState (suc number) ∷ others)
      → Found (slice_index tnfa.owners (suc number / 2)) (target way) later others more to
      → Found rule (suc number) (index_among among ∷ later) (AtState (suc number) ∷ others) ((shown_move way).events ++ more) to
  by_move rule number ways way stands among later others more to once found =
      let new : All (λ stop. AtState (suc number) ≢ stop) (stops_to (first_states found.walk) to) =
      subst (λ stops. All (λ stop. AtState (suc number) ≢ stop) stops) found.visits (λ k d lt. once 0 (suc k) d (omega arith) (omega arith)) in
      record {
        walk = moved ways way stands among found.walk;
        once = (
          AllPairs-cons (λ (state other : ℕ). state ≢ other) (suc number) (first_states found.walk)
              (All-from_each (λ other. suc number ≢ other) (first_states found.walk)
              (apart_back (suc number) (first_states found.walk) to (Each-from_all (λ stop. AtState (suc number) ≢ stop) (stops_to (first_states found.walk) to) new)))
              (states_once found.walk found.once),
          found.once,
        );
        takes = (later, refl, found.takes);
        visits = ap (λ stops. AtState (suc number) ∷ stops) found.visits;
        has = ap (λ list. (shown_move way).events ++ list) found.has;
      }

  by_leaf : (rule state choice : ℕ) (choices : List ℕ) (visited : List Stop) (events : List Event) (to : Target)
      → choices ≡ choice ∷ [] → visited ≡ AtState state ∷ AtTarget to ∷ [] → events ≡ []
      → slice_get (steps_from tnfa (AtState state)) choice ≡ Some (record { to = AtTarget to; events = [] })
      → 0 < state → ((ways : List spec.Move) → slice_get (automaton (terms_of patterns)) state ≡ Some (moves ways) → ⊥)
      → (walk : Walk (automaton (terms_of patterns)) 0 state) → VisitsOnce walk → Found rule state choices visited events to
  by_leaf rule state choice choices visited events to one stops none get later never stay once = absurd (omega (arith, later))
  by_leaf rule state choice choices visited events to one stops none get later never (moved ways way stands among walk) once = absurd (never ways stands)
  by_leaf rule state choice choices visited events to one stops none get later never (at_point ranges number stands within walk) once =
      record { walk = at_point ranges number stands within walk; once = once; takes = (choice, one, get); visits = stops; has = none }
  by_leaf rule state choice choices visited events to one stops none get later never (at_unit number stands walk) once =
      record { walk = at_unit number stands walk; once = once; takes = (choice, one, get); visits = stops; has = none }

  module _ (rule number choice : ℕ) (later : List ℕ) (others : List Stop) (more : List Event) (to : Target) (step : Step) where
    abbrev owner : ℕ
    owner = slice_index tnfa.owners (suc number / 2)

    abbrev FoundHere : Type 0
    FoundHere = Found rule (suc number) (choice ∷ later) (AtState (suc number) ∷ others) (step.events ++ more) to

    from_leaf : (row : spec.State) → slice_get (automaton (terms_of patterns)) (suc number) ≡ Some row → (IsDead tnfa (AtState (suc number)) → ⊥)
        → ((ways : List spec.Move) → row ≡ moves ways → ⊥) → (HasMoves (state_of tnfa.states (suc number)) → ⊥)
        → slice_get (steps_from tnfa (AtState (suc number))) choice ≡ Some step → IsWalk tnfa step.to later others more (AtTarget to) → FoundHere
    from_leaf row at alive never held_leaf get walk =
        let found = leaf_of tnfa.classes owner (suc number / 2) choice (state_of tnfa.states (suc number)) step held_leaf get in
        let ends = stays tnfa found.0 to later others more (subst (λ (s : Step). IsWalk tnfa s.to later others more (AtTarget to)) found.1 walk) in
        let cut = leads_on (suc number) row at alive in
        by_leaf rule (suc number) choice (choice ∷ later) (AtState (suc number) ∷ others) (step.events ++ more) to
        (ap (λ list. choice ∷ list) ends.none) (ap (λ stops. AtState (suc number) ∷ stops) ends.stops)
        (ap₂ (λ (s : Step) (list : List Event). s.events ++ list) found.1 ends.no_events)
        (get ∙ ap Some found.1 ∙ ap (λ (target : Target). let step : Step = record { to = AtTarget target; events = [] } in Some step) ends.same)
        (omega arith) (λ ways stands. never ways (let same : row ≡ moves ways = cc in same)) cut.0 cut.1

    from_moves : (ways : List spec.Move) → slice_get (automaton (terms_of patterns)) (suc number) ≡ Some (moves ways)
        → slice_get (steps_of tnfa.classes owner (suc number / 2) (held.Moves (map shown_move ways))) choice ≡ Some step
        → AllPairs (λ (stop other : Stop). stop ≢ other) (AtState (suc number) ∷ others) → IsWalk tnfa step.to later others more (AtTarget to)
        → ((next : ℕ) → IsWalk tnfa (stop_at owner next) later others more (AtTarget to) → Found owner next later others more to) → FoundHere
    from_moves ways at get once walk deeper =
        let found = move_of tnfa.classes owner (suc number / 2) choice ways step get in
        subst (λ c. Found rule (suc number) (c ∷ later) (AtState (suc number) ∷ others) (step.events ++ more) to) found.2
        (subst (λ (s : Step). Found rule (suc number) (index_among found.1 ∷ later) (AtState (suc number) ∷ others) (s.events ++ more) to) (sym found.3)
        (by_move rule number ways found.0 at found.1 later others more to once
        (deeper (target found.0) (subst (λ (s : Step). IsWalk tnfa s.to later others more (AtTarget to)) found.3 walk))))

    from_row : (row : spec.State) (state : State) → slice_get (automaton (terms_of patterns)) (suc number) ≡ Some row → Represents tnfa.classes row state
        → state_of tnfa.states (suc number) ≡ state → (IsDead tnfa (AtState (suc number)) → ⊥)
        → slice_get (steps_from tnfa (AtState (suc number))) choice ≡ Some step
        → AllPairs (λ (stop other : Stop). stop ≢ other) (AtState (suc number) ∷ others) → IsWalk tnfa step.to later others more (AtTarget to)
        → ((next : ℕ) → IsWalk tnfa (stop_at owner next) later others more (AtTarget to) → Found owner next later others more to) → FoundHere
    from_row (moves ways) (held.Moves list) at same is_state alive get once walk deeper =
        from_moves ways at
        (subst (λ state. slice_get (steps_of tnfa.classes owner (suc number / 2) state) choice ≡ Some step) (is_state ∙ ap held.Moves same) get) once walk deeper
    from_row (moves ways) (held.Class class) at same is_state alive get once walk deeper = absurd same
    from_row (moves ways) held.AnyUnit at same is_state alive get once walk deeper = absurd same
    from_row (leaf ranges) (held.Moves list) at same is_state alive get once walk deeper = absurd same
    from_row (leaf ranges) (held.Class class) at same is_state alive get once walk deeper =
        from_leaf (leaf ranges) at alive (λ ways is_moves. cc) (λ has. subst HasMoves is_state has) get walk
    from_row (leaf ranges) held.AnyUnit at same is_state alive get once walk deeper = absurd same
    from_row unit_leaf (held.Moves list) at same is_state alive get once walk deeper = absurd same
    from_row unit_leaf (held.Class class) at same is_state alive get once walk deeper = absurd same
    from_row unit_leaf held.AnyUnit at same is_state alive get once walk deeper =
        from_leaf unit_leaf at alive (λ ways is_moves. cc) (λ has. subst HasMoves is_state has) get walk

  -- a plain walk of closures is one over the automaton
  from_stop : (choices : List ℕ) (rule state : ℕ) (visited : List Stop) (events : List Event) (to : Target)
      → IsWalk tnfa (stop_at rule state) choices visited events (AtTarget to) → AllPairs (λ (stop other : Stop). stop ≢ other) visited
      → All (λ stop. IsDead tnfa stop → ⊥) visited → Found rule state choices visited events to
  from_stop choices rule zero visited events to walk once alive =
      let ends = stays tnfa (End rule) to choices visited events walk in
      record { walk = stay; once = tt; takes = (ends.none, sym ends.same); visits = ends.stops; has = ends.no_events }
  from_stop [] rule (suc number) visited events to walk once alive = let stop = walk.2 in cc
  from_stop (choice ∷ choices) rule (suc number) visited events to walk once alive =
      let others = walk.1 in
      let apart = subst (AllPairs (λ (stop other : Stop). stop ≢ other)) walk.4 once in
      let living = subst (All (λ stop. IsDead tnfa stop → ⊥)) walk.4 alive in
      let deeper =
      λ (next : ℕ) (behind : IsWalk tnfa (stop_at (slice_index tnfa.owners (suc number / 2)) next) choices others walk.2 (AtTarget to)).
      from_stop choices (slice_index tnfa.owners (suc number / 2)) next others walk.2 to behind
      (λ i j d lt within. apart (suc i) (suc j) d (omega arith) (omega arith)) (λ k d lt. living (suc k) d (omega arith)) in
      subst (λ stops. Found rule (suc number) (choice ∷ choices) stops events to) (sym walk.4)
      (subst (λ list. Found rule (suc number) (choice ∷ choices) (AtState (suc number) ∷ others) list to) (sym walk.5)
      (⊎_elim
      (λ row. from_row rule number choice choices others walk.2 to walk.0 row.0 (state_of tnfa.states (suc number)) row.1 row.2 refl
      (living 0 (AtState 0) (omega arith)) walk.3 apart walk.6 deeper)
      (λ none. let get = subst (λ state. slice_get (steps_of tnfa.classes (slice_index tnfa.owners (suc number / 2)) (suc number / 2) state) choice ≡ Some walk.0) none walk.3 in cc)
      (row_or_none tnfa.classes (automaton (terms_of patterns)) tnfa.states (suc number) is.states)))

  pub plain_found : (state : ℕ) (choices : List ℕ) (visited : List Stop) (events : List Event) (to : Target) → 0 < state
      → IsWalk tnfa (AtState state) choices visited events (AtTarget to) → AllPairs (λ (stop other : Stop). stop ≢ other) visited
      → All (λ stop. IsDead tnfa stop → ⊥) visited
      → (walk : Walk (automaton (terms_of patterns)) 0 state) × VisitsOnce walk × Takes tnfa (slice_index tnfa.owners (state / 2)) walk choices to
      × (events ≡ first_events walk)
  plain_found zero choices visited events to later walk once alive = absurd (omega (arith, later))
  plain_found (suc number) choices visited events to later walk once alive =
      let found = from_stop choices (slice_index tnfa.owners (suc number / 2)) (suc number) visited events to walk once alive in
      (found.walk, found.once, found.takes, found.has)
