-- Walks over the automaton that visit no state twice are plain walks of closures until their first unit.
use Rattle.std.proofs.Common.{◌≡◌, ℕ, zero, suc, ◌<◌, ◌+◌, ◌*◌, ◌/◌, inl, inr, List, [], ◌∷◌, ◌++◌, map, Some, refl, sym, ap, ◌∙◌, subst, arith}
use Rattle.std.specs.Prelude.{◌≢◌, AllPairs, slice_get, slice_index}
use Rattle.std.specs.Option.{option_map}
use Rattle.std.proofs.lemmas.List.Kept.{AllPairs-cons}
use Rattle.std.proofs.lemmas.Option.{slice_get-map}
use Rattle.lx_regex.specs.ClassLimits.{AllClassesFit}
use Rattle.lx_base.specs.declared.settings.Enc.{Enc}
use Rattle.lx_regex.specs.Automaton as spec
use Rattle.lx_regex.specs.Automaton.{automaton, moves, target}
use Rattle.lx_regex.specs.Pattern.{Pattern, terms_of}
use Rattle.lx_regex.specs.Term.{Term, parts}
use Rattle.lx_regex.specs.Walk.{IsAmong, first, next, Walk, stay, moved, at_point, at_unit}
use Rattle.lx_tnfa.specs.Classes.{AreClasses}
use Rattle.lx_tnfa.specs.Closure.{IsDead, IsPlainWalk, IsWalk, Step, beginning_of, steps_of, stop_at}
use Rattle.lx_tnfa.specs.Moves.{shown_move}
use Rattle.lx_tnfa.specs.PlainWalks.{VisitsOnce, first_states}
use Rattle.lx_tnfa.specs.TakenWalks.{GoesOnAt, IsLeafChoice, Takes, first_events, index_among}
use Rattle.lx_tnfa.specs.Tnfa.{IsTnfaOf, Tnfa, beginnings_from}
use Rattle.lx_tnfa.specs.declared.classes.ClassGraph.{ClassGraph}
use Rattle.lx_tnfa.specs.declared.closure.Stop.{Stop}
use Rattle.lx_tnfa.specs.declared.closure.Stop.TheVariants.{AtState, AtTarget}
use Rattle.lx_tnfa.specs.declared.closure.Target.{Target}
use Rattle.lx_tnfa.specs.declared.closure.Target.TheVariants.{End}
use Rattle.lx_tnfa.specs.declared.places.Place.{Place}
use Rattle.lx_tnfa.specs.declared.states.State.TheVariants as held
use Rattle.lx_tnfa.proofs.Construction.HeldStates.{moves_same}
use Rattle.lx_tnfa.proofs.Liveness.LiveWalks.{to_of, walk_reaches}
use Rattle.lx_tnfa.proofs.Searching.SearchBasics.{Each}
use Rattle.lx_tnfa.proofs.Searching.SearchPaths.{All-from_each, Each-from_all}

-- ---- stops

-- the stops of a walk to a target
abbrev pub stops_to : (states : List ℕ) → Target → List Stop
stops_to states to = map AtState states ++ AtTarget to ∷ []

apart : (state : ℕ) (states : List ℕ) (to : Target) → Each (λ other. state ≢ other) states → Each (λ stop. AtState state ≢ stop) (stops_to states to)
apart state [] to h = (λ same. cc, tt)
apart state (other ∷ states) to h = (λ same. h.0 (let is : state ≡ other = cc in is), apart state states to h.1)

one_apart : (to : Target) → AllPairs (λ (stop other : Stop). stop ≢ other) (AtTarget to ∷ [])
one_apart to i j d lt within = absurd (omega arith)

all_apart : (states : List ℕ) (to : Target) → AllPairs (λ (state other : ℕ). state ≢ other) states
    → AllPairs (λ (stop other : Stop). stop ≢ other) (stops_to states to)
all_apart [] to h = one_apart to
all_apart (state ∷ states) to h =
    AllPairs-cons (λ (stop other : Stop). stop ≢ other) (AtState state) (stops_to states to)
    (All-from_each (λ stop. AtState state ≢ stop) (stops_to states to)
    (apart state states to (Each-from_all (λ other. state ≢ other) states (λ k d lt. h 0 (suc k) d (omega arith) (omega arith)))))
    (all_apart states to (λ i j d lt within. h (suc i) (suc j) d (omega arith) (omega arith)))

-- the step from the start to the beginning of a rule
abbrev start_step : ℕ → Step
start_step begin = record { to = AtState begin; events = [] }

none_among : {way : spec.Move} {ways : List spec.Move} → IsAmong way ways → ways ≡ [] → ⊥
none_among first none = cc
none_among (next among) none = cc

-- a move of the automaton is the step with its index
step_taken : (classes : List ClassGraph) (rule part : ℕ) (way : spec.Move) (ways : List spec.Move) (among : IsAmong way ways)
    → slice_get (steps_of classes rule part (held.Moves (map shown_move ways))) (index_among among)
    ≡ Some (record { to = stop_at rule (target way); events = (shown_move way).events })
step_taken classes rule part way ways (first) =
    ap (λ (to : ℕ). let step : Step = record { to = stop_at rule to; events = (shown_move way).events } in Some step) (to_of way)
step_taken classes rule part way (other ∷ ways) (next among) = step_taken classes rule part way ways among

-- the rules of an automaton begin behind state 0
begins_later : (rules : List Term) (part choice state : ℕ) → 0 < part → slice_get (beginnings_from rules part) choice ≡ Some state → 0 < state
begins_later [] part choice state later at = cc
begins_later (rule ∷ rules) part zero state later at = let is : 2 * part ≡ state = cc in omega (arith, is, later)
begins_later (rule ∷ rules) part (suc choice) state later at = begins_later rules (part + parts rule) choice state (omega (arith, later)) at

-- ---- walks

-- the states that are left until the first unit are apart
pub states_once : {rows : List spec.State} {state : ℕ} (walk : Walk rows 0 state) → VisitsOnce walk
    → AllPairs (λ (state other : ℕ). state ≢ other) (first_states walk)
states_once stay once = λ i j d lt within. absurd (omega arith)
states_once (moved ways way stands among walk) once = once.0
states_once (at_point ranges number stands within walk) once = λ i j d lt within. absurd (omega arith)
states_once (at_unit number stands walk) once = λ i j d lt within. absurd (omega arith)

module _ (enc : Enc) (patterns : List Pattern) (tnfa : Tnfa) (is : IsTnfaOf enc patterns tnfa) where
  abbrev FullWalk : (state : ℕ) → Type 0
  FullWalk state = Walk (automaton (terms_of patterns)) 0 state

  -- nothing goes on from state 0
  no_move : (ways : List spec.Move) (way : spec.Move) → slice_get (automaton (terms_of patterns)) 0 ≡ Some (moves ways) → IsAmong way ways → ⊥
  no_move ways way stands among = none_among among (let none : [] ≡ ways = cc in sym none)

  leaf_taken : (number : ℕ) (choices : List ℕ) (to : Target) → IsLeafChoice tnfa (suc number) choices to
      → IsWalk tnfa (AtState (suc number)) choices (AtState (suc number) ∷ AtTarget to ∷ []) [] (AtTarget to)
  leaf_taken number choices to takes =
      subst (λ list. IsWalk tnfa (AtState (suc number)) list (AtState (suc number) ∷ AtTarget to ∷ []) [] (AtTarget to)) (sym takes.1)
      (record { to = AtTarget to; events = [] }, AtTarget to ∷ [], [], takes.2, refl, refl, (refl, refl, refl))

  -- the walk of the closure goes through the same states
  taken : (rule : ℕ) {state : ℕ} (walk : FullWalk state) (choices : List ℕ) (to : Target) → Takes tnfa rule walk choices to
      → IsWalk tnfa (stop_at rule state) choices (stops_to (first_states walk) to) (first_events walk) (AtTarget to)
  taken rule stay choices to takes =
      subst (λ list. IsWalk tnfa (AtTarget (End rule)) list (AtTarget to ∷ []) [] (AtTarget to)) (sym takes.0)
      (ap (λ target. AtTarget target ∷ []) takes.1, refl, ap AtTarget (sym takes.1))
  taken rule (moved {state = zero} ways way stands among walk) choices to takes = absurd (no_move ways way stands among)
  taken rule (moved {state = suc number} ways way stands among walk) choices to takes =
      let owner = slice_index tnfa.owners (suc number / 2) in
      subst (λ list. IsWalk tnfa (AtState (suc number)) list (AtState (suc number) ∷ stops_to (first_states walk) to) ((shown_move way).events ++ first_events walk) (AtTarget to))
      (sym takes.1) (
        record { to = stop_at owner (target way); events = (shown_move way).events },
        stops_to (first_states walk) to,
        first_events walk,
        subst (λ state. slice_get (steps_of tnfa.classes owner (suc number / 2) state) (index_among among)
            ≡ Some (record { to = stop_at owner (target way); events = (shown_move way).events }))
            (sym (moves_same enc patterns tnfa (suc number) ways is stands)) (step_taken tnfa.classes owner (suc number / 2) way ways among),
        refl,
        refl,
        taken owner walk takes.0 to takes.2,
      )
  taken rule (at_point {state = zero} ranges number stands within walk) choices to takes = cc
  taken rule (at_point {state = suc number} ranges point stands within walk) choices to takes = leaf_taken number choices to takes
  taken rule (at_unit {state = zero} number stands walk) choices to takes = cc
  taken rule (at_unit {state = suc number} unit stands walk) choices to takes = leaf_taken number choices to takes

  -- it does not visit the start
  none_start : {state : ℕ} (walk : FullWalk state) → Each (λ other. 0 ≢ other) (first_states walk)
  none_start stay = tt
  none_start (moved {state = zero} ways way stands among walk) = absurd (no_move ways way stands among)
  none_start (moved {state = suc number} ways way stands among walk) = (λ same. omega (arith, same), none_start walk)
  none_start (at_point {state = zero} ranges number stands within walk) = cc
  none_start (at_point {state = suc number} ranges point stands within walk) = (λ same. omega (arith, same), tt)
  none_start (at_unit {state = zero} number stands walk) = cc
  none_start (at_unit {state = suc number} unit stands walk) = (λ same. omega (arith, same), tt)

  module _ (fits : AllClassesFit enc (terms_of patterns)) where
    -- nor one from which no end can be reached
    alive : {state : ℕ} → FullWalk state → ¬ IsDead tnfa (AtState state)
    alive {state = state} walk dead =
        let reaches =
        walk_reaches tnfa (terms_of patterns) (subst (λ e. AreClasses e tnfa.classes) (sym is.enc) is.classes) is.states
        (subst (λ e. AllClassesFit e (terms_of patterns)) (sym is.enc) fits) walk in
        let marks = is.marks in
        let marked = (is.live state (omega (arith, marks, dead.0))).1 reaches in
        let unmarked = dead.1 in cc

    all_alive : {state : ℕ} (walk : FullWalk state) (to : Target) → Each (λ stop. ¬ IsDead tnfa stop) (stops_to (first_states walk) to)
    all_alive stay to = (λ dead. dead, tt)
    all_alive (moved ways way stands among walk) to = (alive (moved ways way stands among walk), all_alive walk to)
    all_alive (at_point ranges number stands within walk) to = (alive (at_point ranges number stands within walk), (λ dead. dead, tt))
    all_alive (at_unit number stands walk) to = (alive (at_unit number stands walk), (λ dead. dead, tt))

    module _ (places : List Place) (place : Place) (from : ℕ) (begins : slice_get places from ≡ Some place) where
      from_state : (state : ℕ) (walk : FullWalk state) (choices : List ℕ) (to : Target) → beginning_of tnfa place ≡ AtState state → 0 < state
          → VisitsOnce walk → Takes tnfa (slice_index tnfa.owners (state / 2)) walk choices to
          → IsPlainWalk tnfa places (record { from = from; choices = choices; events = first_events walk; to = to })
      from_state zero walk choices to at later once takes = absurd (omega (arith, later))
      from_state (suc number) walk choices to at later once takes = record {
        place = place;
        begins = begins;
        visited = stops_to (first_states walk) to;
        walk =
            subst (λ stop. IsWalk tnfa stop choices (stops_to (first_states walk) to) (first_events walk) (AtTarget to)) (sym at)
            (taken (slice_index tnfa.owners (suc number / 2)) walk choices to takes);
        once = all_apart (first_states walk) to (states_once walk once);
        live = All-from_each (λ stop. ¬ IsDead tnfa stop) (stops_to (first_states walk) to) (all_alive walk to);
      }

      from_start : (state : ℕ) (walk : FullWalk state) (choice : ℕ) (choices : List ℕ) (to : Target) → beginning_of tnfa place ≡ AtState 0
          → slice_get tnfa.begins choice ≡ Some state → 0 < state
          → VisitsOnce walk → Takes tnfa (slice_index tnfa.owners (state / 2)) walk choices to
          → IsPlainWalk tnfa places (record { from = from; choices = choice ∷ choices; events = first_events walk; to = to })
      from_start zero walk choice choices to at begin later once takes = absurd (omega (arith, later))
      from_start (suc number) walk choice choices to at begin later once takes = record {
        place = place;
        begins = begins;
        visited = AtState 0 ∷ stops_to (first_states walk) to;
        walk =
            subst (λ stop. IsWalk tnfa stop (choice ∷ choices) (AtState 0 ∷ stops_to (first_states walk) to) (first_events walk) (AtTarget to)) (sym at) (
              record { to = AtState (suc number); events = [] },
              stops_to (first_states walk) to,
              first_events walk,
              slice_get-map start_step tnfa.begins choice ∙ ap (λ found. option_map start_step found) begin,
              refl,
              refl,
              taken (slice_index tnfa.owners (suc number / 2)) walk choices to takes,
            );
        once =
            AllPairs-cons (λ (stop other : Stop). stop ≢ other) (AtState 0) (stops_to (first_states walk) to)
            (All-from_each (λ stop. AtState 0 ≢ stop) (stops_to (first_states walk) to) (apart 0 (first_states walk) to (none_start walk)))
            (all_apart (first_states walk) to (states_once walk once));
        live =
            All-from_each (λ stop. ¬ IsDead tnfa stop) (AtState 0 ∷ stops_to (first_states walk) to) (alive stay, all_alive walk to);
      }

      -- a walk from a place
      pub plain_taken : (before choices : List ℕ) (to : Target) (state : ℕ) (walk : FullWalk state) → GoesOnAt tnfa place before state
          → VisitsOnce walk → Takes tnfa (slice_index tnfa.owners (state / 2)) walk choices to
          → IsPlainWalk tnfa places (record { from = from; choices = before ++ choices; events = first_events walk; to = to })
      plain_taken before choices to state walk (inl goes) once takes =
          subst (λ list. IsPlainWalk tnfa places (record { from = from; choices = list ++ choices; events = first_events walk; to = to })) (sym goes.2)
          (from_state state walk choices to goes.0 goes.1 once takes)
      plain_taken before choices to state walk (inr goes) once takes =
          let later = begins_later (terms_of patterns) 1 goes.1.0 state (omega arith) (subst (λ list. slice_get list goes.1.0 ≡ Some state) is.begins goes.1.2) in
          subst (λ list. IsPlainWalk tnfa places (record { from = from; choices = list ++ choices; events = first_events walk; to = to })) (sym goes.1.1)
          (from_start state walk goes.1.0 choices to goes.0 goes.1.2 later once takes)
