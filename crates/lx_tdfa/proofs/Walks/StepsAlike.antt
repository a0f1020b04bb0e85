-- The steps of walks over a unit are the segments over it that a search finds: to each place the first, in their order.
use Rattle.std.proofs.Common.{◌≡◌, ℕ, ◌<◌, ◌⊎◌, inl, inr, Bool, true, false, List, [], ◌∷◌, map, refl, sym, ap, ◌∙◌, subst, Some, None, eq-eqb}
use Rattle.std.proofs.lemmas.Bool.{and_from, and_parts, eqb-true, false≢true, or_cases, or_parts}
use Rattle.std.specs.List.{cons_option}
use Rattle.std.specs.Option.{option_map}
use Rattle.std.specs.Prelude.{Option, filter_map, nat_eq, if◌then◌else◌}
use Rattle.lx_regex.specs.Automaton.{automaton}
use Rattle.lx_regex.specs.Dictionary.{IsBefore}
use Rattle.lx_regex.specs.Term.{Term}
use Rattle.lx_tnfa.specs.Closure.{AreLeastWalks, Arrival, ComesBefore, IsClosureOf, IsPlainWalk}
use Rattle.lx_tnfa.specs.LeafReadings.{IsNth}
use Rattle.lx_tnfa.specs.PlaceNumbers.{numbers_after, symbols_added}
use Rattle.lx_tnfa.specs.Tnfa.{Tnfa, place_after}
use Rattle.lx_tnfa.specs.declared.closure.Reach.{Reach}
use Rattle.lx_tnfa.specs.declared.closure.Stop.{Stop}
use Rattle.lx_tnfa.specs.declared.closure.Target.{Target}
use Rattle.lx_tnfa.specs.declared.closure.Target.TheVariants.{End, Leaf}
use Rattle.lx_tnfa.specs.declared.places.Place.{Place}
use Rattle.lx_tnfa.proofs.Construction.NthLists.{mapped_from}
use Rattle.lx_tnfa.proofs.Searching.SearchBasics.{Each}
use Rattle.lx_tnfa.proofs.Searching.SearchPaths.{Each-from_all}
use Rattle.lx_tnfa.proofs.Searching.SearchUnique.{IsBefore-irrefl, IsBefore-trans}
use Rattle.lx_tdfa.specs.Graph.{graph_of, rule_starts}
use Rattle.lx_tdfa.specs.Kernels.{Candidate, segment_symbols}
use Rattle.lx_tdfa.specs.Steps.{IsInLeaf, Step, first_steps, is_among, is_place, next_steps, step_on, step_to}
use Rattle.lx_tdfa.proofs.Walks.ClosureSearches as bridge
use Rattle.lx_tdfa.proofs.Walks.ClosureSearches.{AreAlike, IsSource, candidates_from, number_of}
use Rattle.lx_tdfa.proofs.Walks.EndsAlike.{least_arrival, not_before, reach_of}
use Rattle.lx_tdfa.proofs.Walks.FirstSegments.{segments_same}
use Rattle.lx_tdfa.proofs.WordKernels.KernelSteps.{next_candidates-first}
use Rattle.lx_tdfa.proofs.WordKernels.OrderedLists.{IsMember, IsRising, each_from, each_member, nth_same}
use Rattle.lx_tdfa.proofs.Walks.PlainRuns.{Keyed, Run, rising_pairs}
use Rattle.lx_tdfa.proofs.Walks.RunSegments.{IsBetween, Matches, Shape, candidate_run, run_candidate}
use Rattle.lx_tdfa.proofs.WordKernels.RunSteps.{AreApart, AreFirstSegments, IsSooner}
use Rattle.lx_tdfa.proofs.Walks.SegmentOrder.{shape_before, shape_behind}
use Rattle.lx_tdfa.proofs.Walks.StopPlaces.{AreBeginnings, value_nth}
use Rattle.lx_tdfa.proofs.Walks.StopSteps.{Holds}

-- the test of places is right
place_same : (place other : Place) → is_place place other ≡ true → place ≡ other
place_same place other e =
    let both = and_parts (nat_eq place.part other.part) (nat_eq place.rest.0 other.rest.0) e in
    let part = eqb-true place.part other.part both.0 in
    let rest = eqb-true place.rest.0 other.rest.0 both.1 in
    λ i. record { part = part i; rest = record { 0 = rest i } }

place_self : (place : Place) → is_place place place ≡ true
place_self place =
    and_from (nat_eq place.part place.part) (nat_eq place.rest.0 place.rest.0) (eq-eqb place.part place.part refl) (eq-eqb place.rest.0 place.rest.0 refl)

-- how one target goes on, another walk to it does
same_step : (tnfa : Tnfa) (unit : ℕ) (a b : Arrival) (step : Step) → b.to ≡ a.to → step_on tnfa unit (reach_of a) ≡ Some step
    → (other : Step) × (step_on tnfa unit (reach_of b) ≡ Some other) × (other.to ≡ step.to)
same_step tnfa unit a b step same e = at a.to same e
  where
    at : (target : Target) → b.to ≡ target → step_to tnfa unit (reach_of a) target ≡ Some step
        → (other : Step) × (step_on tnfa unit (reach_of b) ≡ Some other) × (other.to ≡ step.to)
    at (Leaf place) same e =
        let m = mapped_from (λ (to : Place). record { from = a.from; events = a.events; to = to }) (place_after tnfa place unit) step e in (
          record { from = b.from; events = b.events; to = m.0 },
          ap (step_to tnfa unit (reach_of b)) same ∙ ap (option_map (λ (to : Place). record { from = b.from; events = b.events; to = to })) m.1,
          ap (λ (s : Step). s.to) m.2,
        )
    at (End rule) same e = cc

comes_self : (a b : Arrival) → a ≡ b → ¬ ComesBefore a b
comes_self a b same before =
    IsBefore-irrefl (b.from ∷ b.choices) (subst (λ (x : Arrival). ComesBefore x b) same before)

module _ (tnfa : Tnfa) (rules : List Term) (is : Holds tnfa rules) (kernel : List Place) (first : Bool) (stops : List Stop) (numbers : List ℕ) (key : Arrival → List ℕ) (keyed : Keyed tnfa kernel first stops key) (begin : AreBeginnings tnfa rules is stops numbers) (unit : ℕ) where
  -- the arrival goes on to the place over the unit, and this is its segment
  record Goes (arrival : Arrival) (to : Place) (candidate : Candidate) : Type 0 where
    pub plain : IsPlainWalk tnfa kernel arrival
    pub choices : List ℕ
    pub key_is : key arrival ≡ candidate.from ∷ choices
    pub source : IsSource first candidate.from arrival.from
    pub number : ℕ
    pub at : IsNth numbers candidate.from number
    pub matches : Matches tnfa rules is number unit choices arrival.events to candidate.key candidate.to

  heads : (n m : ℕ) (ns ms : List ℕ) → n ∷ ns ≡ m ∷ ms → n ≡ m
  heads n m ns ms e = cc

  goes : (arrival : Arrival) (place to : Place) → IsPlainWalk tnfa kernel arrival → arrival.to ≡ Leaf place → place_after tnfa place unit ≡ Some to
      → (candidate : Candidate) × Goes arrival to candidate
  goes arrival place to plain leaf e =
      let r = keyed.runs arrival plain in
      let c =
      run_candidate tnfa rules is stops numbers begin unit r.index r.choices arrival.events place to
      (subst (Run tnfa stops r.index r.choices arrival.events) leaf r.run) e in (
        c.0,
        record {
          plain = plain;
          choices = r.choices;
          key_is = r.key_is ∙ ap (λ n. n ∷ r.choices) (sym c.1.from);
          source = subst (λ n. IsSource first n arrival.from) (sym c.1.from) r.source;
          number = c.1.number;
          at = subst (λ n. IsNth numbers n c.1.number) (sym c.1.from) c.1.at;
          matches = c.1.matches;
        },
      )

  -- each step of a plain walk has a segment
  step_goes : (arrival : Arrival) (step : Step) → IsPlainWalk tnfa kernel arrival → step_on tnfa unit (reach_of arrival) ≡ Some step
      → (candidate : Candidate) × Goes arrival step.to candidate × (step.from ≡ arrival.from) × (step.events ≡ arrival.events)
  step_goes arrival step plain e = at arrival.to refl e
    where
      at : (target : Target) → arrival.to ≡ target → step_to tnfa unit (reach_of arrival) target ≡ Some step
          → (candidate : Candidate) × Goes arrival step.to candidate × (step.from ≡ arrival.from) × (step.events ≡ arrival.events)
      at (Leaf place) leaf e =
          let m =
          mapped_from (λ (to : Place). record { from = arrival.from; events = arrival.events; to = to }) (place_after tnfa place unit) step e in
          let g = goes arrival place m.0 plain leaf m.1 in (
            g.0,
            subst (λ (s : Step). Goes arrival s.to g.0) m.2 g.1,
            ap (λ (s : Step). s.from) (sym m.2),
            ap (λ (s : Step). s.events) (sym m.2),
          )
      at (End rule) leaf e = cc

  -- and each segment is that of a step
  segment_goes : (candidate : Candidate) (number : ℕ) → IsNth numbers candidate.from number
      → IsBetween tnfa rules is number unit candidate.key candidate.to
      → (arrival : Arrival) × (step : Step) × (step_on tnfa unit (reach_of arrival) ≡ Some step) × Goes arrival step.to candidate
  segment_goes candidate number nth between =
      let b = candidate_run tnfa rules is stops numbers begin unit candidate number nth between in
      let a = keyed.arrives candidate.from b.choices b.events (Leaf b.place) b.run in
      let r = keyed.runs a.arrival a.plain in
      let index : r.index ≡ candidate.from = heads r.index candidate.from r.choices b.choices (sym r.key_is ∙ a.key_is) in (
        a.arrival,
        record { from = a.arrival.from; events = a.arrival.events; to = b.to },
        ap (step_to tnfa unit (reach_of a.arrival)) a.to
            ∙ ap (option_map (λ (to : Place). record { from = a.arrival.from; events = a.arrival.events; to = to })) b.after,
        record {
          plain = a.plain;
          choices = b.choices;
          key_is = a.key_is;
          source = subst (λ n. IsSource first n a.arrival.from) index r.source;
          number = b.follows.number;
          at = b.follows.at;
          matches =
              subst (λ v. Matches tnfa rules is b.follows.number unit b.choices v b.to candidate.key candidate.to) (sym a.events_are) b.follows.matches;
        },
      )

  -- segments have the order of their arrivals
  goes_sooner : (a b : Arrival) (p q : Place) (n m : Candidate) → Goes a p n → Goes b q m → ComesBefore a b → IsSooner n m
  goes_sooner a b p q n m g h before =
      at (subst (λ k. IsBefore k (m.from ∷ h.choices)) g.key_is (subst (IsBefore (key a)) h.key_is (keyed.before a b g.plain h.plain before)))
    where
      at : (n.from < m.from) ⊎ ((n.from ≡ m.from) × IsBefore g.choices h.choices) → IsSooner n m
      at (inl lt) = inl lt
      at (inr same) =
          let number : h.number ≡ g.number =
          nth_same numbers m.from h.number g.number h.at (subst (λ i. IsNth numbers i g.number) same.0 g.at) in
          inr (
            same.0,
            shape_before tnfa rules is g.number unit g.choices h.choices n.key m.key g.matches.shape
                (subst (λ k. Shape tnfa rules is k unit h.choices m.key) number h.matches.shape) same.1,
          )

  sooner_goes : (a b : Arrival) (p q : Place) (n m : Candidate) → Goes a p n → Goes b q m → IsSooner n m → ComesBefore a b
  sooner_goes a b p q n m g h sooner =
      keyed.behind a b g.plain h.plain
      (subst (λ k. IsBefore k (key b)) (sym g.key_is) (subst (IsBefore (n.from ∷ g.choices)) (sym h.key_is) (at sooner)))
    where
      at : IsSooner n m → (n.from < m.from) ⊎ ((n.from ≡ m.from) × IsBefore g.choices h.choices)
      at (inl lt) = inl lt
      at (inr same) =
          let number : h.number ≡ g.number =
          nth_same numbers m.from h.number g.number h.at (subst (λ i. IsNth numbers i g.number) same.0 g.at) in
          inr (
            same.0,
            shape_behind tnfa rules is g.number unit g.choices h.choices n.key m.key g.matches.shape
                (subst (λ k. Shape tnfa rules is k unit h.choices m.key) number h.matches.shape) same.1,
          )

  module _ (apart : (place other : Place) → IsInLeaf tnfa place → IsInLeaf tnfa other → number_of tnfa place ≡ number_of tnfa other → place ≡ other) where
    -- an arrival of the list that goes on to a new place by this segment
    record Comes (seen : List Place) (arrivals : List Arrival) (candidate : Candidate) : Type 0 where
      pub arrival : Arrival
      pub to : Place
      pub listed : IsMember arrivals arrival
      pub goes : Goes arrival to candidate
      pub new : is_among seen to ≡ false

    -- a segment of the list to this place, of which the arrival is not behind another
    record Reached (candidates : List Candidate) (other : Arrival) (place : Place) : Type 0 where
      pub candidate : Candidate
      pub arrival : Arrival
      pub to : Place
      pub listed : IsMember candidates candidate
      pub goes : Goes arrival to candidate
      pub same : to ≡ place
      pub least : ¬ ComesBefore other arrival

    -- the segments of the first steps
    record Built (seen : List Place) (arrivals : List Arrival) (steps : List Step) : Type 0 where
      pub candidates : List Candidate
      pub alike : AreAlike tnfa rules first numbers unit candidates steps
      pub come : (candidate : Candidate) → IsMember candidates candidate → Comes seen arrivals candidate
      pub reach : (other : Arrival) (step : Step) → IsMember arrivals other → step_on tnfa unit (reach_of other) ≡ Some step
          → (is_among seen step.to ≡ true) ⊎ Reached candidates other step.to
      pub order : IsRising IsSooner candidates
      pub once : IsRising AreApart candidates

    comes_later : (seen : List Place) (a : Arrival) (arrivals : List Arrival) (candidate : Candidate) → Comes seen arrivals candidate
        → Comes seen (a ∷ arrivals) candidate
    comes_later seen a arrivals candidate c =
        record { arrival = c.arrival; to = c.to; listed = inr c.listed; goes = c.goes; new = c.new }

    -- an arrival that adds nothing
    passed : (seen : List Place) (a : Arrival) (arrivals : List Arrival) (steps : List Step)
        → ((step : Step) → step_on tnfa unit (reach_of a) ≡ Some step → is_among seen step.to ≡ true) → Built seen arrivals steps
        → Built seen (a ∷ arrivals) steps
    passed seen a arrivals steps old b = record {
      candidates = b.candidates;
      alike = b.alike;
      come = λ n m. comes_later seen a arrivals n (b.come n m);
      reach = λ other step m e. at other step m e;
      order = b.order;
      once = b.once;
    }
      where
        at : (other : Arrival) (step : Step) → IsMember (a ∷ arrivals) other → step_on tnfa unit (reach_of other) ≡ Some step
            → (is_among seen step.to ≡ true) ⊎ Reached b.candidates other step.to
        at other step (inl same) e = inl (old step (ap (λ (x : Arrival). step_on tnfa unit (reach_of x)) same ∙ e))
        at other step (inr m) e = b.reach other step m e

    -- an arrival that is the first to go on to a place
    added : (seen : List Place) (a : Arrival) (arrivals : List Arrival) (step : Step) (steps : List Step) → IsPlainWalk tnfa kernel a
        → Each (ComesBefore a) arrivals → step_on tnfa unit (reach_of a) ≡ Some step → is_among seen step.to ≡ false
        → Built (step.to ∷ seen) arrivals steps → Built seen (a ∷ arrivals) (step ∷ steps)
    added seen a arrivals step steps plain rising e new b = record {
      candidates = n ∷ b.candidates;
      alike = (
        g.matches.to_is,
        subst (IsSource first n.from) (sym s.2) g.source,
        subst (λ k. bridge.IsSegment tnfa rules k unit n.key step.events) (sym (value_nth 0 numbers n.from g.number g.at))
            (subst (bridge.IsSegment tnfa rules g.number unit n.key) (sym s.3) g.matches.says),
        b.alike,
      );
      come = λ m k. come m k;
      reach = λ other after m f. reach other after m f;
      order = (
        each_from (IsSooner n) b.candidates (λ m k.
            let c = b.come m k in
            goes_sooner a c.arrival step.to c.to n m g c.goes (each_member (ComesBefore a) arrivals c.arrival rising c.listed)),
        b.order,
      );
      once = (each_from (AreApart n) b.candidates (λ m k same. differ m (b.come m k) same), b.once);
    }
      where
        s : (candidate : Candidate) × Goes a step.to candidate × (step.from ≡ a.from) × (step.events ≡ a.events)
        s = step_goes a step plain e

        n : Candidate
        n = s.0

        g : Goes a step.to n
        g = s.1

        come : (m : Candidate) → IsMember (n ∷ b.candidates) m → Comes seen (a ∷ arrivals) m
        come m (inl same) = record { arrival = a; to = step.to; listed = inl refl; goes = subst (Goes a step.to) same g; new = new }
        come m (inr k) =
            let c = b.come m k in
            comes_later seen a arrivals m
            (record { arrival = c.arrival; to = c.to; listed = c.listed; goes = c.goes; new = (or_parts (is_place step.to c.to) (is_among seen c.to) c.new).1 })

        differ : (m : Candidate) → Comes (step.to ∷ seen) arrivals m → n.to ≡ m.to → ⊥
        differ m c same =
            let place : step.to ≡ c.to =
            apart step.to c.to g.matches.within c.goes.matches.within (sym g.matches.to_is ∙ same ∙ c.goes.matches.to_is) in
            false≢true (sym (or_parts (is_place step.to c.to) (is_among seen c.to) c.new).0
            ∙ ap (λ (p : Place). is_place p c.to) place ∙ place_self c.to)

        here : (other : Arrival) (after : Step) → step.to ≡ after.to → ¬ ComesBefore other a → Reached (n ∷ b.candidates) other after.to
        here other after same least =
            record { candidate = n; arrival = a; to = step.to; listed = inl refl; goes = g; same = same; least = least }

        behind : (other : Arrival) → IsMember arrivals other → ¬ ComesBefore other a
        behind other m before =
            IsBefore-irrefl (other.from ∷ other.choices)
            (IsBefore-trans (other.from ∷ other.choices) (a.from ∷ a.choices) (other.from ∷ other.choices) before
            (each_member (ComesBefore a) arrivals other rising m))

        reach : (other : Arrival) (after : Step) → IsMember (a ∷ arrivals) other → step_on tnfa unit (reach_of other) ≡ Some after
            → (is_among seen after.to ≡ true) ⊎ Reached (n ∷ b.candidates) other after.to
        reach other after (inl same) f =
            let steps : Some step ≡ Some after = sym e ∙ ap (λ (x : Arrival). step_on tnfa unit (reach_of x)) same ∙ f in
            let step_same : step ≡ after = cc in
            inr (here other after (ap (λ (x : Step). x.to) step_same) (comes_self other a (sym same)))
        reach other after (inr m) f = at (b.reach other after m f)
          where
            at : (is_among (step.to ∷ seen) after.to ≡ true) ⊎ Reached b.candidates other after.to
                → (is_among seen after.to ≡ true) ⊎ Reached (n ∷ b.candidates) other after.to
            at (inl among) = which (or_cases (is_place step.to after.to) (is_among seen after.to) among)
              where
                which : (is_place step.to after.to ≡ true) ⊎ (is_among seen after.to ≡ true)
                    → (is_among seen after.to ≡ true) ⊎ Reached (n ∷ b.candidates) other after.to
                which (inl same) = inr (here other after (place_same step.to after.to same) (behind other m))
                which (inr old) = inl old
            at (inr r) =
                inr (record { candidate = r.candidate; arrival = r.arrival; to = r.to; listed = inr r.listed; goes = r.goes; same = r.same; least = r.least })

    build : (seen : List Place) (arrivals : List Arrival) → IsRising ComesBefore arrivals → Each (IsPlainWalk tnfa kernel) arrivals
        → Built seen arrivals (first_steps seen (filter_map (step_on tnfa unit) (map reach_of arrivals)))
    build seen [] rising plain = record {
      candidates = [];
      alike = tt;
      come = λ n m. absurd m;
      reach = λ other step m e. absurd m;
      order = tt;
      once = tt;
    }
    build seen (a ∷ arrivals) rising plain = at (step_on tnfa unit (reach_of a)) refl (λ seen. build seen arrivals rising.1 plain.1)
      where
        rest : List Step
        rest = filter_map (step_on tnfa unit) (map reach_of arrivals)

        none : (step : Step) → None ≡ Some step → is_among seen step.to ≡ true
        none step e = cc

        at : (o : Option Step) → step_on tnfa unit (reach_of a) ≡ o
            → ((seen : List Place) → Built seen arrivals (first_steps seen (filter_map (step_on tnfa unit) (map reach_of arrivals))))
            → Built seen (a ∷ arrivals) (first_steps seen (cons_option o (filter_map (step_on tnfa unit) (map reach_of arrivals))))
        at None e more = passed seen a arrivals _ (λ step f. none step (sym e ∙ f)) (more seen)
        at (Some step) e more = by (is_among seen step.to) refl
          where
            old : is_among seen step.to ≡ true → (other : Step) → Some step ≡ Some other → is_among seen other.to ≡ true
            old among other f = let same : step ≡ other = cc in subst (λ (x : Step). is_among seen x.to ≡ true) same among

            by : (b : Bool) → is_among seen step.to ≡ b
                → Built seen (a ∷ arrivals)
                (if b then first_steps seen (filter_map (step_on tnfa unit) (map reach_of arrivals)) else step ∷ first_steps (step.to ∷ seen) (filter_map (step_on tnfa unit) (map reach_of arrivals)))
            by true among = passed seen a arrivals _ (λ other f. old among other (sym e ∙ f)) (more seen)
            by false new = added seen a arrivals step _ plain.0 rising.0 e new (more (step.to ∷ seen))

    firsts : (arrivals : List Arrival) (steps : List Step) → AreLeastWalks tnfa kernel arrivals → (b : Built [] arrivals steps)
        → AreFirstSegments (graph_of (automaton rules)) (numbers_after tnfa) (segment_symbols rules (symbols_added tnfa)) (rule_starts rules) numbers unit
        b.candidates
    firsts arrivals steps least b = record {
      sound = λ n m. let c = b.come n m in (c.goes.number, c.goes.at, c.goes.matches.between);
      complete = λ n number nth between. complete n (segment_goes n number nth between);
      order = b.order;
      once = b.once;
    }
      where
        complete : (n : Candidate)
            → (arrival : Arrival) × (step : Step) × (step_on tnfa unit (reach_of arrival) ≡ Some step) × Goes arrival step.to n
            → (m : Candidate) × IsMember b.candidates m × (m.to ≡ n.to) × (IsSooner n m → ⊥)
        complete n g = at (b.reach l.0 after.0 l.1 after.1)
          where
            l : (a : Arrival) × IsMember arrivals a × (a.to ≡ g.0.to) × IsPlainWalk tnfa kernel a × (¬ ComesBefore g.0 a)
            l = least_arrival tnfa kernel arrivals least g.0 g.3.plain

            after : (other : Step) × (step_on tnfa unit (reach_of l.0) ≡ Some other) × (other.to ≡ g.1.to)
            after = same_step tnfa unit g.0 l.0 g.1 l.2 g.2

            at : (is_among [] after.0.to ≡ true) ⊎ Reached b.candidates l.0 after.0.to
                → (m : Candidate) × IsMember b.candidates m × (m.to ≡ n.to) × (IsSooner n m → ⊥)
            at (inl never) = absurd (false≢true never)
            at (inr r) = (
              r.candidate,
              r.listed,
              r.goes.matches.to_is ∙ ap (number_of tnfa) (r.same ∙ after.2) ∙ sym g.3.matches.to_is,
              (λ sooner.
                  not_before (g.0.from ∷ g.0.choices) (l.0.from ∷ l.0.choices) (r.arrival.from ∷ r.arrival.choices) r.least l.4
                  (sooner_goes g.0 r.arrival g.1.to r.to n r.candidate g.3 r.goes sooner)),
            )

    pub steps_alike : (reaches : List Reach) → IsClosureOf tnfa kernel reaches
        → AreAlike tnfa rules first numbers unit (candidates_from tnfa rules numbers unit) (next_steps tnfa unit reaches)
    steps_alike reaches closure =
        let b =
        build [] closure.0 (rising_pairs ComesBefore closure.0 closure.1.order)
        (Each-from_all (IsPlainWalk tnfa kernel) closure.0 closure.1.plain) in
        let steps = next_steps tnfa unit (map reach_of closure.0) in
        let same : b.candidates ≡ candidates_from tnfa rules numbers unit =
        segments_same (graph_of (automaton rules)) (numbers_after tnfa) (segment_symbols rules (symbols_added tnfa)) (rule_starts rules) numbers unit
        b.candidates (candidates_from tnfa rules numbers unit) (firsts closure.0 steps closure.1 b)
        (next_candidates-first (graph_of (automaton rules)) (numbers_after tnfa) (segment_symbols rules (symbols_added tnfa)) (rule_starts rules) numbers unit) in
        subst (λ l. AreAlike tnfa rules first numbers unit (candidates_from tnfa rules numbers unit) (next_steps tnfa unit l)) (sym closure.2)
        (subst (λ l. AreAlike tnfa rules first numbers unit l steps) same b.alike)
