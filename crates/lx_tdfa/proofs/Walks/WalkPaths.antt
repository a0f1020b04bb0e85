-- Plain walks over stops are simple paths of the graph of states, with the same tag events.
use Rattle.std.proofs.Common.{◌≡◌, ◌≢◌, ℕ, zero, suc, ◌<◌, arith, List, [], ◌∷◌, ◌++◌, refl, sym, ap, ◌∙◌, subst, inl, inr, append-nil, Some}
use Rattle.std.specs.Prelude.{◌/◌, slice_get, slice_index}
use Rattle.lx_encode.specs.declared.graph.Residual.{Residual}
use Rattle.lx_regex.specs.Automaton.{automaton, label, target}
use Rattle.lx_regex.specs.Term.{Term}
use Rattle.lx_tnfa.specs.Closure.{IsDead, IsWalk, Step, leaf_step, steps_from, stop_at}
use Rattle.lx_tnfa.specs.DepthFirst.{IsIn, successors}
use Rattle.lx_tnfa.specs.LeafReadings.{IsNth}
use Rattle.lx_tnfa.specs.Live.{ReachesEnd, at_end, state_of}
use Rattle.lx_tnfa.specs.Tnfa.{Tnfa}
use Rattle.lx_tnfa.specs.declared.closure.Stop.{Stop}
use Rattle.lx_tnfa.specs.declared.closure.Stop.TheVariants.{AtState, AtTarget}
use Rattle.lx_tnfa.specs.declared.closure.Target.{Target}
use Rattle.lx_tnfa.specs.declared.closure.Target.TheVariants.{End, Leaf}
use Rattle.lx_tnfa.specs.declared.states.Event.{Event}
use Rattle.lx_tnfa.proofs.Liveness.LiveWalks.{reaches_walk, walk_reaches}
use Rattle.lx_tnfa.proofs.Searching.SearchBasics.{Each, Each-weaker}
use Rattle.lx_tnfa.proofs.Searching.SimplePaths.{IsAt, SimplePath}
use Rattle.lx_tdfa.specs.Graph.{graph_of, move_at, path_symbols}
use Rattle.lx_tdfa.proofs.Walks.ClosureSearches.{events_of, last_state}
use Rattle.lx_tdfa.proofs.WordKernels.OrderedLists.{IsRising}
use Rattle.lx_tdfa.proofs.Walks.StatePaths.{at_move, path_walk}
use Rattle.lx_tdfa.proofs.Walks.StopSteps.{Holds, IsStep, alive_reaches, by_move, by_start, edge_step, events_append, events_mark, move_step, reaches_alive, rule_at, start_step, start_within, starts_in, state_moves, step_is}

-- the stop is none of these states
abbrev pub IsAway : List ℕ → Stop → Type 0
IsAway avoided stop = (number : ℕ) → IsIn avoided number → stop ≡ AtState number → ⊥

module _ (tnfa : Tnfa) (rules : List Term) (is : Holds tnfa rules) where
  -- A path lands at a target: at a leaf, of which one more choice picks a start, or at the last state of all.
  abbrev pub Lands : (number : ℕ) (way choices : List ℕ) (last : ℕ) → Target → Type 0
  Lands number way choices last (Leaf place) =
      (index : ℕ) × (choices ≡ way ++ index ∷ []) × IsNth (starts_in tnfa.classes (state_of tnfa.states last)) index place.rest
      × (place.part ≡ last / 2) × ReachesEnd tnfa.classes tnfa.states last
  Lands number way choices last (End rule) =
      (choices ≡ way) × (way ≢ []) × (last ≡ 0) × (rule ≡ slice_index tnfa.owners (last_state (automaton rules) number way / 2))

  -- the path of a walk
  pub record Followed (avoided : List ℕ) (number : ℕ) (choices : List ℕ) (events : List Event) (target : Target) : Type 0 where
    pub way : List ℕ
    pub last : ℕ
    pub path : SimplePath (graph_of (automaton rules)) avoided number way last
    pub says : events_of (path_symbols (automaton rules) number way []) ≡ events
    pub lands : Lands number way choices last target

  -- the events of a path with one more move in front
  events_more : (number choice : ℕ) (way : List ℕ) (to : ℕ) → target (move_at (automaton rules) number choice) ≡ to
      → events_of (path_symbols (automaton rules) number (choice ∷ way) [])
      ≡ events_of (label (move_at (automaton rules) number choice)) ++ events_of (path_symbols (automaton rules) to way [])
  events_more number choice way to e =
      let m = move_at (automaton rules) number choice in
      events_mark number (label m ++ path_symbols (automaton rules) (target m) way [])
      ∙ events_append (label m) (path_symbols (automaton rules) (target m) way [])
      ∙ ap (λ n. events_of (label m) ++ events_of (path_symbols (automaton rules) n way [])) e

  -- and where it lands
  lands_on : (number choice to : ℕ) (way choices : List ℕ) (last : ℕ) (end : Target) → target (move_at (automaton rules) number choice) ≡ to
      → Lands to way choices last end → Lands number (choice ∷ way) (choice ∷ choices) last end
  lands_on number choice to way choices last (Leaf place) e lands =
      (lands.0, ap (λ l. choice ∷ l) lands.1, lands.2, lands.3, lands.4)
  lands_on number choice to [] choices last (End rule) e lands = absurd (lands.1 refl)
  lands_on number choice to (other ∷ way) choices last (End rule) e lands = (
    ap (λ l. choice ∷ l) lands.0,
    (λ empty. cc),
    lands.2,
    lands.3 ∙ ap (λ n. slice_index tnfa.owners (last_state (automaton rules) n (other ∷ way) / 2)) (sym e),
  )

  lands_off : (avoided : List ℕ) (number choice to : ℕ) (way choices : List ℕ) (last : ℕ) (end : Target) → target (move_at (automaton rules) number choice) ≡ suc to
      → SimplePath (graph_of (automaton rules)) avoided (suc to) way last
      → Lands number (choice ∷ way) choices last end → (others : List ℕ) × (choices ≡ choice ∷ others) × Lands (suc to) way others last end
  lands_off avoided number choice to way choices last (Leaf place) e path lands =
      (way ++ lands.0 ∷ [], lands.1, (lands.0, refl, lands.2, lands.3, lands.4))
  lands_off avoided number choice to [] choices last (End rule) e path lands = absurd (omega (arith, path.1, lands.2))
  lands_off avoided number choice to (other ∷ way) choices last (End rule) e path lands = (
    other ∷ way,
    lands.0,
    (refl, (λ empty. cc), lands.2, lands.3 ∙ ap (λ n. slice_index tnfa.owners (last_state (automaton rules) n (other ∷ way) / 2)) e),
  )

  -- a walk from a target stays there
  pub at_target : (from : Target) (choices : List ℕ) (visited : List Stop) (events : List Event) (to : Target)
      → IsWalk tnfa (AtTarget from) choices visited events (AtTarget to) → (choices ≡ []) × (events ≡ []) × (from ≡ to)
  at_target from [] visited events to walk = (refl, walk.1, cc)
  at_target from (choice ∷ choices) visited events to walk = let e = walk.3 in cc

  -- a path with one more move in front
  more : (avoided : List ℕ) (number choice to : ℕ) (choices : List ℕ) (later : List Event) (end : Target) → (IsIn avoided number → ⊥)
      → IsAt 0 (successors (graph_of (automaton rules)) number) choice to → Followed (number ∷ avoided) to choices later end
      → Followed avoided number (choice ∷ choices) (events_of (label (move_at (automaton rules) number choice)) ++ later) end
  more avoided number choice to choices later end apart edge followed =
      let same = (at_move (automaton rules) number choice to edge).2 in record {
        way = choice ∷ followed.way;
        last = followed.last;
        path = (apart, (to, edge, followed.path));
        says = events_more number choice followed.way to same ∙ ap (λ l. events_of (label (move_at (automaton rules) number choice)) ++ l) followed.says;
        lands = lands_on number choice to followed.way choices followed.last end same followed.lands;
      }

  -- a move to the last state of all
  ended : (avoided : List ℕ) (number choice : ℕ) (choices : List ℕ) (visited : List Stop) (later : List Event) (end : Target)
      → (IsIn avoided number → ⊥) → (IsIn (number ∷ avoided) 0 → ⊥) → IsAt 0 (successors (graph_of (automaton rules)) number) choice 0
      → IsWalk tnfa (stop_at (rule_at tnfa rules is number) 0) choices visited later (AtTarget end)
      → Followed avoided number (choice ∷ choices) (events_of (label (move_at (automaton rules) number choice)) ++ later) end
  ended avoided number choice choices visited later end apart none edge walk =
      let stays = at_target (End (rule_at tnfa rules is number)) choices visited later end walk in
      let same = (at_move (automaton rules) number choice 0 edge).2 in record {
        way = choice ∷ [];
        last = 0;
        path = (apart, (0, edge, (none, refl)));
        says = events_more number choice [] 0 same ∙ ap (λ l. events_of (label (move_at (automaton rules) number choice)) ++ l) (sym stays.1);
        lands =
            subst (Lands number (choice ∷ []) (choice ∷ choices) 0) stays.2
            (ap (λ l. choice ∷ l) stays.0, (λ empty. cc), refl, refl);
      }

  -- a step into a leaf
  begun : (avoided : List ℕ) (number choice : ℕ) (choices : List ℕ) (visited : List Stop) (later : List Event) (rest : Residual) (end : Target)
      → (IsIn avoided number → ⊥) → (¬ IsDead tnfa (AtState number)) → IsNth (starts_in tnfa.classes (state_of tnfa.states number)) choice rest
      → IsWalk tnfa (leaf_step (number / 2) rest).to choices visited later (AtTarget end) → Followed avoided number (choice ∷ choices) ([] ++ later) end
  begun avoided number choice choices visited later rest end apart alive nth walk =
      let stays = at_target (Leaf (record { part = number / 2; rest = rest })) choices visited later end walk in record {
        way = [];
        last = number;
        path = (apart, refl);
        says = sym stays.1;
        lands =
            subst (Lands number [] (choice ∷ choices) number) stays.2 (
              choice,
              ap (λ l. choice ∷ l) stays.0,
              nth,
              refl,
              alive_reaches tnfa rules is number (start_within tnfa.classes tnfa.states number choice rest nth) alive,
            );
      }

  -- a plain walk from a state is a path
  pub to_path : (avoided : List ℕ) (number : ℕ) (choices : List ℕ) (visited : List Stop) (events : List Event) (end : Target) → 0 < number
      → (IsIn avoided 0 → ⊥) → IsWalk tnfa (AtState number) choices visited events (AtTarget end) → IsRising (λ (a b : Stop). a ≢ b) visited
      → Each (λ (stop : Stop). ¬ IsDead tnfa stop) visited → Each (IsAway avoided) visited → Followed avoided number choices events end
  to_path avoided number [] visited events end pos none walk once live away = let e = walk.2 in absurd (cc)
  to_path avoided number (choice ∷ choices) visited events end pos none walk once live away =
      let once' = subst (IsRising (λ (a b : Stop). a ≢ b)) walk.4 once in
      let live' = subst (Each (λ (stop : Stop). ¬ IsDead tnfa stop)) walk.4 live in
      let away' = subst (Each (IsAway avoided)) walk.4 away in
      let apart : IsIn avoided number → ⊥ = λ m. away'.0 number m refl in
      subst (λ e. Followed avoided number (choice ∷ choices) e end) (sym walk.5)
      (onward (step_is tnfa rules is number choice walk.0 pos walk.3) apart live'.0
      (λ to lt w. to_path (number ∷ avoided) to choices walk.1 walk.2 end lt zero_apart w once'.1 live'.1 (further once'.0 away'.1)))
    where
      zero_apart : IsIn (number ∷ avoided) 0 → ⊥
      zero_apart (inl e) = omega (arith, e, pos)
      zero_apart (inr m) = none m

      further : Each (λ (stop : Stop). AtState number ≢ stop) walk.1 → Each (IsAway avoided) walk.1 → Each (IsAway (number ∷ avoided)) walk.1
      further h k = both walk.1 h k
        where
          one : (stop : Stop) → AtState number ≢ stop → IsAway avoided stop → IsAway (number ∷ avoided) stop
          one stop ne f other (inl e) same = ne (ap AtState e ∙ sym same)
          one stop ne f other (inr m) same = f other m same

          both : (stops : List Stop) → Each (λ (stop : Stop). AtState number ≢ stop) stops → Each (IsAway avoided) stops
              → Each (IsAway (number ∷ avoided)) stops
          both [] h k = tt
          both (stop ∷ stops) h k = (one stop h.0 k.0, both stops h.1 k.1)

      onward : IsStep tnfa rules is number choice walk.0 → (IsIn avoided number → ⊥) → (¬ IsDead tnfa (AtState number))
          → ((to : ℕ) → 0 < to → IsWalk tnfa (AtState to) choices walk.1 walk.2 (AtTarget end) → Followed (number ∷ avoided) to choices walk.2 end)
          → Followed avoided number (choice ∷ choices) (walk.0.events ++ walk.2) end
      onward (by_move zero edge is') apart alive later =
          subst (λ (s : Step). Followed avoided number (choice ∷ choices) (s.events ++ walk.2) end) (sym is')
          (ended avoided number choice choices walk.1 walk.2 end apart zero_apart edge
          (subst (λ (s : Step). IsWalk tnfa s.to choices walk.1 walk.2 (AtTarget end)) is' walk.6))
      onward (by_move (suc to) edge is') apart alive later =
          subst (λ (s : Step). Followed avoided number (choice ∷ choices) (s.events ++ walk.2) end) (sym is')
          (more avoided number choice (suc to) choices walk.2 end apart edge
          (later (suc to) (omega arith) (subst (λ (s : Step). IsWalk tnfa s.to choices walk.1 walk.2 (AtTarget end)) is' walk.6)))
      onward (by_start rest nth is') apart alive later =
          subst (λ (s : Step). Followed avoided number (choice ∷ choices) (s.events ++ walk.2) end) (sym is')
          (begun avoided number choice choices walk.1 walk.2 rest end apart alive nth
          (subst (λ (s : Step). IsWalk tnfa s.to choices walk.1 walk.2 (AtTarget end)) is' walk.6))

  -- the walk of a path
  pub record Walked (avoided : List ℕ) (number : ℕ) (way choices : List ℕ) (end : Target) : Type 0 where
    pub visited : List Stop
    pub events : List Event
    pub walk : IsWalk tnfa (AtState number) choices visited events (AtTarget end)
    pub once : IsRising (λ (a b : Stop). a ≢ b) visited
    pub live : Each (λ (stop : Stop). ¬ IsDead tnfa stop) visited
    pub away : Each (IsAway avoided) visited
    pub says : events_of (path_symbols (automaton rules) number way []) ≡ events

  -- an end can be reached from where a path goes on to where one can be reached
  pub path_reaches : (avoided : List ℕ) (number : ℕ) (way : List ℕ) (last : ℕ) → SimplePath (graph_of (automaton rules)) avoided number way last
      → ReachesEnd tnfa.classes tnfa.states last → ReachesEnd tnfa.classes tnfa.states number
  path_reaches avoided number way last path reaches =
      walk_reaches tnfa rules is.are is.states is.fits
      (path_walk tnfa.enc (automaton rules) avoided number way last path (reaches_walk tnfa rules is.are is.states last reaches)).0

  lands_reaches : (number : ℕ) (way choices : List ℕ) (last : ℕ) (end : Target) → Lands number way choices last end
      → ReachesEnd tnfa.classes tnfa.states last
  lands_reaches number way choices last (Leaf place) lands = lands.4
  lands_reaches number way choices last (End rule) lands = subst (ReachesEnd tnfa.classes tnfa.states) (sym lands.2) at_end

  -- one step to a target
  step_walked : (avoided : List ℕ) (number choice : ℕ) (way : List ℕ) (events : List Event) (end : Target) → (IsIn avoided number → ⊥)
      → (¬ IsDead tnfa (AtState number)) → slice_get (steps_from tnfa (AtState number)) choice ≡ Some (record { to = AtTarget end; events = events })
      → events_of (path_symbols (automaton rules) number way []) ≡ events → Walked avoided number way (choice ∷ []) end
  step_walked avoided number choice way events end apart alive get says = record {
    visited = AtState number ∷ AtTarget end ∷ [];
    events = events;
    walk = (record { to = AtTarget end; events = events }, AtTarget end ∷ [], [], get, refl, sym (append-nil events), (refl, refl, refl));
    once = (((λ e. cc), tt), (tt, tt));
    live = (alive, ((λ dead. dead), tt));
    away = ((λ other m e. apart (subst (IsIn avoided) (same_number number other e) m)), ((λ other m e. cc), tt));
    says = says;
  }
    where
      same_number : (number other : ℕ) → AtState number ≡ AtState other → other ≡ number
      same_number number other e = cc

  -- one more step in front of a walk
  more_walked : (avoided : List ℕ) (number choice to : ℕ) (way choices : List ℕ) (end : Target) → (IsIn avoided number → ⊥)
      → (¬ IsDead tnfa (AtState number)) → 0 < number → IsAt 0 (successors (graph_of (automaton rules)) number) choice (suc to)
      → Walked (number ∷ avoided) (suc to) way choices end → Walked avoided number (choice ∷ way) (choice ∷ choices) end
  more_walked avoided number choice to way choices end apart alive pos edge walked =
      let same = (at_move (automaton rules) number choice (suc to) edge).2 in
      let m = move_at (automaton rules) number choice in record {
        visited = AtState number ∷ walked.visited;
        events = events_of (label m) ++ walked.events;
        walk = (
          move_step (rule_at tnfa rules is number) (suc to) m,
          walked.visited,
          walked.events,
          edge_step tnfa rules is number choice (suc to) pos edge,
          refl,
          refl,
          walked.walk,
        );
        once = (
          Each-weaker (IsAway (number ∷ avoided)) (λ (stop : Stop). AtState number ≢ stop) (λ stop f e. f number (inl refl) (sym e)) walked.visited walked.away,
          walked.once,
        );
        live = (alive, walked.live);
        away = (
          (λ other k e. apart (subst (IsIn avoided) (same_number number other e) k)),
          Each-weaker (IsAway (number ∷ avoided)) (IsAway avoided) (λ stop f other k e. f other (inr k) e) walked.visited walked.away,
        );
        says = events_more number choice way (suc to) same ∙ ap (λ l. events_of (label m) ++ l) walked.says;
      }
    where
      same_number : (number other : ℕ) → AtState number ≡ AtState other → other ≡ number
      same_number number other e = cc

  -- no path leads on from the last state of all
  from_zero : (avoided way : List ℕ) (last : ℕ) → SimplePath (graph_of (automaton rules)) avoided 0 way last → (way ≡ []) × (last ≡ 0)
  from_zero avoided [] last path = (refl, sym path.1)
  from_zero avoided (choice ∷ way) last path = absurd path.1.1

  zero_walked : (avoided : List ℕ) (number choice : ℕ) (way choices : List ℕ) (last : ℕ) (end : Target) → (IsIn avoided number → ⊥)
      → (¬ IsDead tnfa (AtState number)) → 0 < number → IsAt 0 (successors (graph_of (automaton rules)) number) choice 0 → way ≡ []
      → last ≡ 0 → Lands number (choice ∷ way) choices last end → Walked avoided number (choice ∷ way) choices end
  zero_walked avoided number choice way choices last (Leaf place) apart alive pos edge none nil lands =
      let nth = subst (λ n. IsNth (starts_in tnfa.classes (state_of tnfa.states n)) lands.0 place.rest) nil lands.2 in
      absurd (subst (λ s. IsNth (starts_in tnfa.classes s) lands.0 place.rest) (state_moves tnfa rules is 0 [] refl) nth)
  zero_walked avoided number choice way choices last (End rule) apart alive pos edge none nil lands =
      let same = (at_move (automaton rules) number choice 0 edge).2 in
      let m = move_at (automaton rules) number choice in
      let only : choices ≡ choice ∷ [] = lands.0 ∙ ap (λ l. choice ∷ l) none in
      let owner : rule_at tnfa rules is number ≡ rule =
      sym (lands.3 ∙ ap (λ l. slice_index tnfa.owners (last_state (automaton rules) number (choice ∷ l) / 2)) none) in
      subst (λ l. Walked avoided number (choice ∷ way) l (End rule)) (sym only)
      (step_walked avoided number choice (choice ∷ way) (events_of (label m)) (End rule) apart alive
      (edge_step tnfa rules is number choice 0 pos edge
      ∙ ap (λ r. Some (record { to = AtTarget (End r); events = events_of (label m) })) owner)
      (ap (λ l. events_of (path_symbols (automaton rules) number (choice ∷ l) [])) none ∙ events_more number choice [] 0 same
      ∙ append-nil (events_of (label m))))

  start_walked : (avoided : List ℕ) (number last : ℕ) (choices : List ℕ) (end : Target) → (IsIn avoided number → ⊥)
      → (¬ IsDead tnfa (AtState number)) → 0 < number → number ≡ last → Lands number [] choices last end → Walked avoided number [] choices end
  start_walked avoided number last choices (Leaf place) apart alive pos same lands =
      subst (λ l. Walked avoided number [] l (Leaf place)) (sym lands.1)
      (step_walked avoided number lands.0 [] [] (Leaf place) apart alive
      (start_step tnfa rules is number lands.0 place.rest pos
      (subst (λ n. IsNth (starts_in tnfa.classes (state_of tnfa.states n)) lands.0 place.rest) (sym same) lands.2)
      ∙ ap (λ n. Some (record { to = AtTarget (Leaf (record { part = n; rest = place.rest })); events = [] }))
      (ap (λ n. n / 2) same ∙ sym lands.3)) refl)
  start_walked avoided number last choices (End rule) apart alive pos same lands = absurd (lands.1 refl)

  -- a path that lands is a plain walk
  pub from_path : (avoided : List ℕ) (number : ℕ) (way : List ℕ) (last : ℕ) (choices : List ℕ) (end : Target) → 0 < number
      → SimplePath (graph_of (automaton rules)) avoided number way last → Lands number way choices last end
      → Walked avoided number way choices end
  from_path avoided number [] last choices end pos path lands =
      start_walked avoided number last choices end path.0
      (reaches_alive tnfa rules is number (path_reaches avoided number [] last path (lands_reaches number [] choices last end lands))) pos path.1
      lands
  from_path avoided number (choice ∷ way) last choices end pos path lands =
      at path.1.0 path.1.1 path.1.2 (λ to others p l. from_path (number ∷ avoided) (suc to) way last others end (omega arith) p l)
    where
      alive : ¬ IsDead tnfa (AtState number)
      alive =
          reaches_alive tnfa rules is number
          (path_reaches avoided number (choice ∷ way) last path (lands_reaches number (choice ∷ way) choices last end lands))

      at : (to : ℕ) → IsAt 0 (successors (graph_of (automaton rules)) number) choice to
          → SimplePath (graph_of (automaton rules)) (number ∷ avoided) to way last
          → ((to : ℕ) (others : List ℕ) → SimplePath (graph_of (automaton rules)) (number ∷ avoided) (suc to) way last
          → Lands (suc to) way others last end → Walked (number ∷ avoided) (suc to) way others end)
          → Walked avoided number (choice ∷ way) choices end
      at zero edge rest later =
          let none = from_zero (number ∷ avoided) way last rest in
          zero_walked avoided number choice way choices last end path.0 alive pos edge none.0 none.1 lands
      at (suc to) edge rest later =
          let off =
          lands_off (number ∷ avoided) number choice to way choices last end (at_move (automaton rules) number choice (suc to) edge).2 rest lands in
          subst (λ l. Walked avoided number (choice ∷ way) l end) (sym off.1)
          (more_walked avoided number choice to way off.0 end path.0 alive pos edge (later to off.0 rest off.2))
