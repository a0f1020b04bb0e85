-- The first end that walks reach is the first way that a search finds to the last state of all.
use Rattle.std.proofs.Common.{◌≡◌, ◌≢◌, ℕ, zero, suc, ◌<◌, ◌≤◌, ◌⊎◌, inl, inr, arith, Bool, List, [], ◌∷◌, map, length, get_or, refl, sym, ap, ◌∙◌, subst, Some, None}
use Rattle.std.specs.Prelude.{◌/◌, Contains, Option, slice_index}
use Rattle.lx_regex.specs.Automaton.{automaton}
use Rattle.lx_regex.specs.Dictionary.{IsBefore}
use Rattle.lx_regex.specs.Term.{Term}
use Rattle.lx_tnfa.specs.Closure.{AreLeastWalks, Arrival, ComesBefore, IsClosureOf, IsPlainWalk, IsWalk}
use Rattle.lx_tnfa.specs.DepthFirst.{Found, IsIn, decide_in, search_from}
use Rattle.lx_tnfa.specs.LeafReadings.{IsNth}
use Rattle.lx_tnfa.specs.Tnfa.{Tnfa}
use Rattle.lx_tnfa.specs.declared.closure.Reach.{Reach}
use Rattle.lx_tnfa.specs.declared.closure.Stop.{Stop}
use Rattle.lx_tnfa.specs.declared.closure.Stop.TheVariants.{AtState, AtTarget}
use Rattle.lx_tnfa.specs.declared.closure.Target.{Target}
use Rattle.lx_tnfa.specs.declared.closure.Target.TheVariants.{End, Leaf}
use Rattle.lx_tnfa.specs.declared.places.Place.{Place}
use Rattle.lx_tnfa.specs.declared.states.Event.{Event}
use Rattle.lx_tnfa.proofs.Searching.SearchBasics.{Each}
use Rattle.lx_tnfa.proofs.Searching.SearchLaws.{IsAscending}
use Rattle.lx_tnfa.proofs.Searching.SearchPaths.{Each-from_all}
use Rattle.lx_tnfa.proofs.Searching.SearchUnique.{IsBefore-cases, IsBefore-irrefl, IsBefore-trans}
use Rattle.lx_tnfa.proofs.Searching.SimplePaths.{SimplePath, SimplePathFrom}
use Rattle.lx_tdfa.specs.Accepts.{first_final, if_final}
use Rattle.lx_tdfa.specs.Graph.{graph_of, path_symbols}
use Rattle.lx_tdfa.specs.Steps.{Ending, ending_at, first_ending}
use Rattle.lx_tdfa.proofs.Walks.ClosureSearches.{AreEndsAlike, IsEndAlike, end_from, events_of, last_state}
use Rattle.lx_tdfa.proofs.Walks.Closures.{IsSearchList, search_from-list}
use Rattle.lx_tdfa.proofs.WordKernels.OrderedLists.{IsMember, IsRising, at_zero_nth, each_member, nth_at_zero}
use Rattle.lx_tdfa.proofs.Walks.PlainRuns.{Keyed, Run, rising_pairs}
use Rattle.lx_tdfa.proofs.Walks.StatePaths.{no_edge, path_symbols-units}
use Rattle.lx_tdfa.proofs.Walks.StopPlaces.{AreBeginnings, Begin, begin_beyond, begin_number, begin_stop, value_nth}
use Rattle.lx_tdfa.proofs.Walks.StopSteps.{Holds}
use Rattle.lx_tdfa.proofs.Walks.WalkPaths.{IsAway, at_target, from_path, to_path}

-- the first way that was found to state 0
data IsFirstZero (es : List Found) : Option Found → Type 0 where
  nowhere : ((e : Found) → IsMember es e → e.state ≡ 0 → ⊥) → IsFirstZero es None
  found : (e : Found) → IsMember es e → e.state ≡ 0 → ((f : Found) → IsMember es f → f.state ≡ 0 → ¬ IsBefore f.choices e.choices)
      → IsFirstZero es (Some e)

zero_later : (e : Found) (es : List Found) (o : Option Found) → e.state ≢ 0 → IsFirstZero es o → IsFirstZero (e ∷ es) o
zero_later e es o ne (nowhere none) = nowhere (λ f m z. at f m z)
  where
    at : (f : Found) → IsMember (e ∷ es) f → f.state ≡ 0 → ⊥
    at f (inl same) z = ne (ap (λ (x : Found). x.state) same ∙ z)
    at f (inr m) z = none f m z
zero_later e es o ne (found g m z least) = found g (inr m) z (λ f k w. at f k w)
  where
    at : (f : Found) → IsMember (e ∷ es) f → f.state ≡ 0 → ¬ IsBefore f.choices g.choices
    at f (inl same) w = absurd (ne (ap (λ (x : Found). x.state) same ∙ w))
    at f (inr k) w = least f k w

first_zero : (es : List Found) → IsAscending es → IsFirstZero es (first_final (0 ∷ []) es)
first_zero [] a = nowhere (λ e m z. m)
first_zero (e ∷ es) a = at (decide_in (0 ∷ []) e.state) (first_zero es a.1)
  where
    zero_is : IsIn (0 ∷ []) e.state → e.state ≡ 0
    zero_is (inl same) = sym same
    zero_is (inr m) = absurd m

    first : (f : Found) → IsMember (e ∷ es) f → IsBefore f.choices e.choices → ⊥
    first f (inl same) before = IsBefore-irrefl e.choices (subst (λ (x : Found). IsBefore x.choices e.choices) (sym same) before)
    first f (inr m) before =
        IsBefore-irrefl f.choices
        (IsBefore-trans f.choices e.choices f.choices before (each_member (λ (x : Found). IsBefore e.choices x.choices) es f a.0 m))

    at : (d : Dec (IsIn (0 ∷ []) e.state)) → IsFirstZero es (first_final (0 ∷ []) es)
        → IsFirstZero (e ∷ es) (if_final d (Some e) (first_final (0 ∷ []) es))
    at (yes m) r = found e (inl refl) (zero_is m) (λ f k z before. first f k before)
    at (no m) r = zero_later e es (first_final (0 ∷ []) es) (λ z. m (inl (sym z))) r

-- an arrival as a reach
abbrev pub reach_of : Arrival → Reach
reach_of arrival = record { to = arrival.to; events = arrival.events; from = arrival.from }

-- the first arrival at an end
data IsFirstEnding (arrivals : List Arrival) : Option Ending → Type 0 where
  nowhere : ((a : Arrival) (rule : ℕ) → IsMember arrivals a → a.to ≡ End rule → ⊥) → IsFirstEnding arrivals None
  found : (a : Arrival) (rule : ℕ) → IsMember arrivals a → a.to ≡ End rule
      → ((b : Arrival) (other : ℕ) → IsMember arrivals b → b.to ≡ End other → ¬ ComesBefore b a)
      → IsFirstEnding arrivals (Some (record { rule = rule; from = a.from; events = a.events }))

first_ending_is : (arrivals : List Arrival) → IsRising ComesBefore arrivals → IsFirstEnding arrivals (first_ending (map reach_of arrivals))
first_ending_is [] rising = nowhere (λ a rule m e. m)
first_ending_is (a ∷ arrivals) rising = at a.to refl (first_ending_is arrivals rising.1)
  where
    first : (b : Arrival) → IsMember (a ∷ arrivals) b → ¬ ComesBefore b a
    first b (inl same) before =
        IsBefore-irrefl (a.from ∷ a.choices) (subst (λ (x : Arrival). ComesBefore x a) (sym same) before)
    first b (inr m) before =
        IsBefore-irrefl (b.from ∷ b.choices)
        (IsBefore-trans (b.from ∷ b.choices) (a.from ∷ a.choices) (b.from ∷ b.choices) before (each_member (ComesBefore a) arrivals b rising.0 m))

    later : (o : Option Ending) (place : Place) → a.to ≡ Leaf place → IsFirstEnding arrivals o → IsFirstEnding (a ∷ arrivals) o
    later o place leaf (nowhere none) = nowhere (λ b rule m e. one b rule m e)
      where
        one : (b : Arrival) (rule : ℕ) → IsMember (a ∷ arrivals) b → b.to ≡ End rule → ⊥
        one b rule (inl same) e = let k : Leaf place ≡ End rule = sym leaf ∙ ap (λ (x : Arrival). x.to) same ∙ e in cc
        one b rule (inr m) e = none b rule m e
    later o place leaf (found b rule m e least) = found b rule (inr m) e (λ c other k f. one c other k f)
      where
        one : (c : Arrival) (other : ℕ) → IsMember (a ∷ arrivals) c → c.to ≡ End other → ¬ ComesBefore c b
        one c other (inl same) f = let k : Leaf place ≡ End other = sym leaf ∙ ap (λ (x : Arrival). x.to) same ∙ f in cc
        one c other (inr k) f = least c other k f

    at : (t : Target) → a.to ≡ t → IsFirstEnding arrivals (first_ending (map reach_of arrivals))
        → IsFirstEnding (a ∷ arrivals) (ending_at (reach_of a) t (first_ending (map reach_of arrivals)))
    at (Leaf place) e r = later (first_ending (map reach_of arrivals)) place e r
    at (End rule) e r = found a rule (inl refl) e (λ b other m f. first b m)

-- each plain walk has a least one to its target among the arrivals
pub least_arrival : (tnfa : Tnfa) (kernel : List Place) (arrivals : List Arrival) → AreLeastWalks tnfa kernel arrivals → (other : Arrival)
    → IsPlainWalk tnfa kernel other
    → (a : Arrival) × IsMember arrivals a × (a.to ≡ other.to) × IsPlainWalk tnfa kernel a × (¬ ComesBefore other a)
least_arrival tnfa kernel arrivals least other plain =
    let m = listed arrivals (least.complete other plain) in (
      m.0,
      m.1,
      m.2,
      each_member (IsPlainWalk tnfa kernel) arrivals m.0 (Each-from_all (IsPlainWalk tnfa kernel) arrivals least.plain) m.1,
      each_member (λ (a : Arrival). (b : Arrival) → IsPlainWalk tnfa kernel b → b.to ≡ a.to → ¬ ComesBefore b a) arrivals m.0
          (Each-from_all (λ (a : Arrival). (b : Arrival) → IsPlainWalk tnfa kernel b → b.to ≡ a.to → ¬ ComesBefore b a) arrivals least.least) m.1 other plain
          (sym m.2),
    )
  where
    listed : (arrivals : List Arrival) → Contains (map (λ (a : Arrival). a.to) arrivals) other.to
        → (a : Arrival) × IsMember arrivals a × (a.to ≡ other.to)
    listed [] c = absurd (omega (arith, c.1))
    listed (a ∷ arrivals) c = at c.0 c.1 c.2 (listed arrivals)
      where
        at : (k : ℕ) → k < length (map (λ (a : Arrival). a.to) (a ∷ arrivals))
            → get_or (map (λ (a : Arrival). a.to) (a ∷ arrivals)) k other.to ≡ other.to
            → (Contains (map (λ (a : Arrival). a.to) arrivals) other.to → (b : Arrival) × IsMember arrivals b × (b.to ≡ other.to))
            → (b : Arrival) × IsMember (a ∷ arrivals) b × (b.to ≡ other.to)
        at zero lt e later = (a, inl refl, e)
        at (suc k) lt e later = let r = later (k, omega arith, e) in (r.0, inr r.1, r.2)

pub never_away : (stops : List Stop) → Each (IsAway []) stops
never_away [] = tt
never_away (stop ∷ stops) = ((λ number m e. m), never_away stops)

-- where y does not come before z, nor x before y, x does not come before z
pub not_before : (x y z : List ℕ) → ¬ IsBefore y z → ¬ IsBefore x y → IsBefore x z → ⊥
not_before x y z f g before = at (IsBefore-cases y z)
  where
    at : IsBefore y z ⊎ ((y ≡ z) ⊎ IsBefore z y) → ⊥
    at (inl b) = f b
    at (inr (inl e)) = g (subst (IsBefore x) (sym e) before)
    at (inr (inr b)) = g (IsBefore-trans x z y before b)

module _ (tnfa : Tnfa) (rules : List Term) (is : Holds tnfa rules) (kernel : List Place) (first : Bool) (stops : List Stop) (numbers : List ℕ) (key : Arrival → List ℕ) (keyed : Keyed tnfa kernel first stops key) (begin : AreBeginnings tnfa rules is stops numbers) where
  -- a walk to an end is a path to state 0
  record EndPath (index : ℕ) (choices : List ℕ) (events : List Event) (rule : ℕ) : Type 0 where
    pub number : ℕ
    pub at : IsNth numbers index number
    pub path : SimplePath (graph_of (automaton rules)) [] number choices 0
    pub moves : choices ≢ []
    pub says : events_of (path_symbols (automaton rules) number choices []) ≡ events
    pub owner : rule ≡ slice_index tnfa.owners (last_state (automaton rules) number choices / 2)

  end_path : (index : ℕ) (choices : List ℕ) (events : List Event) (rule : ℕ) → Run tnfa stops index choices events (End rule)
      → EndPath index choices events rule
  end_path index choices events rule run =
      let number = begin_number tnfa rules is stops numbers index run.stop begin run.at in
      at run.stop number.0 number.1 number.2 run.walk
    where
      at : (stop : Stop) (number : ℕ) → IsNth numbers index number → Begin tnfa rules is stop number
          → IsWalk tnfa stop choices run.visited events (AtTarget (End rule)) → EndPath index choices events rule
      at (AtState state) number nth b walk =
          let f = to_path tnfa rules is [] state choices run.visited events (End rule) b.1 (λ m. m) walk run.once run.live (never_away run.visited) in
          let way = sym f.lands.0 in record {
            number = number;
            at = nth;
            path =
                subst (λ w. SimplePath (graph_of (automaton rules)) [] number w 0) way
                (subst (λ n. SimplePath (graph_of (automaton rules)) [] n f.way 0) b.0
                (subst (SimplePath (graph_of (automaton rules)) [] state f.way) f.lands.2 f.path));
            moves = subst (λ w. w ≢ []) way f.lands.1;
            says =
                subst (λ w. events_of (path_symbols (automaton rules) number w []) ≡ events) way
                (subst (λ n. events_of (path_symbols (automaton rules) n f.way []) ≡ events) b.0 f.says);
            owner =
                subst (λ w. rule ≡ slice_index tnfa.owners (last_state (automaton rules) number w / 2)) way
                (subst (λ n. rule ≡ slice_index tnfa.owners (last_state (automaton rules) n f.way / 2)) b.0 f.lands.3);
          }
      at (AtTarget (Leaf place)) number nth b walk =
          let e = (at_target tnfa rules is (Leaf place) choices run.visited events (End rule) walk).2 in absurd (cc)
      at (AtTarget (End other)) number nth b walk = absurd b

  -- and a path to state 0 is one
  path_end : (index number : ℕ) (way : List ℕ) → IsNth numbers index number → SimplePath (graph_of (automaton rules)) [] number way 0
      → (rule : ℕ) × (events : List Event) × Run tnfa stops index way events (End rule)
  path_end index number way nth path =
      let stop = begin_stop tnfa rules is stops numbers index number begin nth in at stop.0 stop.1 stop.2
    where
      moving : (way : List ℕ) → SimplePath (graph_of (automaton rules)) [] number way 0 → 0 < number → way ≢ []
      moving [] path pos e = omega (arith, path.1, pos)
      moving (choice ∷ way) path pos e = cc

      far : (way : List ℕ) → SimplePath (graph_of (automaton rules)) [] number way 0 → length (automaton rules) ≤ number → ⊥
      far [] path le = omega (arith, path.1, le)
      far (choice ∷ way) path le = no_edge (automaton rules) number choice path.1.0 le path.1.1

      at : (stop : Stop) → IsNth stops index stop → Begin tnfa rules is stop number
          → (rule : ℕ) × (events : List Event) × Run tnfa stops index way events (End rule)
      at (AtState state) s b =
          let p = subst (λ n. SimplePath (graph_of (automaton rules)) [] n way 0) (sym b.0) path in
          let rule = slice_index tnfa.owners (last_state (automaton rules) state way / 2) in
          let w = from_path tnfa rules is [] state way 0 way (End rule) b.1 p (refl, moving way path (omega (arith, b.0, b.1)), refl, refl) in
          (rule, w.events, record { stop = AtState state; at = s; visited = w.visited; walk = w.walk; once = w.once; live = w.live })
      at (AtTarget (Leaf place)) s b = absurd (far way path (begin_beyond tnfa rules is place number b))
      at (AtTarget (End rule)) s b = absurd b

  -- a plain walk to an end has the choices of a path
  ending_path : (a : Arrival) (rule : ℕ) → IsPlainWalk tnfa kernel a → a.to ≡ End rule
      → SimplePathFrom (graph_of (automaton rules)) [] 0 numbers (key a) 0
  ending_path a rule plain e =
      let r = keyed.runs a plain in
      let p = end_path r.index r.choices a.events rule (subst (Run tnfa stops r.index r.choices a.events) e r.run) in
      subst (λ k. SimplePathFrom (graph_of (automaton rules)) [] 0 numbers k 0) (sym r.key_is) (p.number, nth_at_zero numbers r.index p.number p.at, p.path)

  path_ending : (choices : List ℕ) → SimplePathFrom (graph_of (automaton rules)) [] 0 numbers choices 0
      → (a : Arrival) × (rule : ℕ) × IsPlainWalk tnfa kernel a × (a.to ≡ End rule) × (key a ≡ choices)
  path_ending [] path = absurd path
  path_ending (index ∷ way) path =
      let r = path_end index path.0 way (at_zero_nth numbers index path.0 path.1) path.2 in
      let a = keyed.arrives index way r.1 (End r.0) r.2 in
      (a.arrival, r.0, a.plain, a.to, a.key_is)

  module _ (arrivals : List Arrival) (least : AreLeastWalks tnfa kernel arrivals) where
    plain_at : (a : Arrival) → IsMember arrivals a → IsPlainWalk tnfa kernel a
    plain_at a m = each_member (IsPlainWalk tnfa kernel) arrivals a (Each-from_all (IsPlainWalk tnfa kernel) arrivals least.plain) m

    end_alike : (e : Found) (a : Arrival) (rule : ℕ) → IsPlainWalk tnfa kernel a → a.to ≡ End rule → key a ≡ e.choices
        → IsEndAlike tnfa rules first numbers e (record { rule = rule; from = a.from; events = a.events })
    end_alike e a rule plain to same =
        let r = keyed.runs a plain in
        let p = end_path r.index r.choices a.events rule (subst (Run tnfa stops r.index r.choices a.events) to r.run) in
        let at = sym (value_nth 0 numbers r.index p.number p.at) in record {
          from = r.index;
          way = r.choices;
          choices = sym same ∙ r.key_is;
          moves = p.moves;
          source = r.source;
          silent = path_symbols-units (automaton rules) _ r.choices [];
          events_are = subst (λ n. events_of (path_symbols (automaton rules) n r.choices []) ≡ a.events) at p.says;
          rule = subst (λ n. rule ≡ slice_index tnfa.owners (last_state (automaton rules) n r.choices / 2)) at p.owner;
        }

    alike : (es : List Found) → IsSearchList (graph_of (automaton rules)) numbers es → (o : Option Found) (p : Option Ending) → IsFirstZero es o
        → IsFirstEnding arrivals p → AreEndsAlike tnfa rules first numbers o p
    alike es C o p (nowhere none) (nowhere never) = tt
    alike es C o p (nowhere none) (found a rule m to least_end) =
        let c = C.complete (key a) 0 (ending_path a rule (plain_at a m) to) in absurd (none c.0 c.1 c.2)
    alike es C o p (found e m z least_zero) (nowhere never) =
        let b =
        path_ending e.choices (subst (SimplePathFrom (graph_of (automaton rules)) [] 0 numbers e.choices) z (C.sound e m)) in
        let l = least_arrival tnfa kernel arrivals least b.0 b.2 in absurd (never l.0 b.1 l.1 (l.2 ∙ b.3))
    alike es C o p (found e m z least_zero) (found a rule k to least_end) = end_alike e a rule (plain_at a k) to (at (IsBefore-cases (key a) e.choices))
      where
        sooner : IsBefore (key a) e.choices → ⊥
        sooner before =
            let c = C.complete (key a) 0 (ending_path a rule (plain_at a k) to) in
            not_before (key a) c.0.choices e.choices (least_zero c.0 c.1 c.2) c.3 before

        later : IsBefore e.choices (key a) → ⊥
        later before =
            let b = path_ending e.choices (subst (SimplePathFrom (graph_of (automaton rules)) [] 0 numbers e.choices) z (C.sound e m)) in
            let l = least_arrival tnfa kernel arrivals least b.0 b.2 in
            let comes = keyed.behind b.0 a b.2 (plain_at a k) (subst (λ c. IsBefore c (key a)) (sym b.4) before) in
            not_before (b.0.from ∷ b.0.choices) (l.0.from ∷ l.0.choices) (a.from ∷ a.choices) (least_end l.0 b.1 l.1 (l.2 ∙ b.3)) l.4 comes

        at : IsBefore (key a) e.choices ⊎ ((key a ≡ e.choices) ⊎ IsBefore e.choices (key a)) → key a ≡ e.choices
        at (inl before) = absurd (sooner before)
        at (inr (inl same)) = same
        at (inr (inr before)) = absurd (later before)

  pub ends_alike : (reaches : List Reach) → IsClosureOf tnfa kernel reaches
      → AreEndsAlike tnfa rules first numbers (end_from rules numbers) (first_ending reaches)
  ends_alike reaches closure =
      subst (λ l. AreEndsAlike tnfa rules first numbers (end_from rules numbers) (first_ending l)) (sym closure.2)
      (alike closure.0 closure.1 (search_from (graph_of (automaton rules)) [] numbers) C (end_from rules numbers)
      (first_ending (map reach_of closure.0)) (first_zero (search_from (graph_of (automaton rules)) [] numbers) C.order)
      (first_ending_is closure.0 (rising_pairs ComesBefore closure.0 closure.1.order)))
    where
      C : IsSearchList (graph_of (automaton rules)) numbers (search_from (graph_of (automaton rules)) [] numbers)
      C = search_from-list (graph_of (automaton rules)) numbers
