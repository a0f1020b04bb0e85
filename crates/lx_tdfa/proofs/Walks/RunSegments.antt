-- A plain walk to a leaf that reads a unit is a segment between numbers of places, and has its events.
use Rattle.std.proofs.Common.{◌≡◌, ℕ, zero, suc, ◌*◌, ◌<◌, ◌≤◌, arith, List, [], ◌∷◌, ◌++◌, map, length, refl, sym, ap, ap₂, ◌∙◌, subst, Some, ⊎_elim}
use Rattle.std.specs.Option.{option_map}
use Rattle.std.specs.Prelude.{◌/◌, option_to_list}
use Rattle.lx_encode.specs.Graph.{numbered}
use Rattle.lx_encode.specs.declared.graph.Residual.{Residual}
use Rattle.lx_regex.specs.Automaton.{automaton}
use Rattle.lx_regex.specs.Script.{Symbol, reads, units}
use Rattle.lx_regex.specs.Term.{Term}
use Rattle.lx_tnfa.specs.Closure.{IsWalk}
use Rattle.lx_tnfa.specs.LeafReadings.{IsNth}
use Rattle.lx_tnfa.specs.Live.{state_of}
use Rattle.lx_tnfa.specs.PlaceNumbers.{numbers_after, numbers_from, place_number, symbols_added, symbols_from}
use Rattle.lx_tnfa.specs.Tnfa.{IsRest, Tnfa, place_after, rest_after, state_at}
use Rattle.lx_tnfa.specs.declared.closure.Stop.{Stop}
use Rattle.lx_tnfa.specs.declared.closure.Stop.TheVariants.{AtState, AtTarget}
use Rattle.lx_tnfa.specs.declared.closure.Target.TheVariants.{End, Leaf}
use Rattle.lx_tnfa.specs.declared.places.Place.{Place}
use Rattle.lx_tnfa.specs.declared.states.Event.{Event}
use Rattle.lx_tnfa.proofs.Leaves.LeafNumbers.{read_at, unfinished_number}
use Rattle.lx_tnfa.proofs.Construction.NthLists.{mapped_from, nth_option}
use Rattle.lx_tnfa.proofs.Leaves.RestPlaces.{rest_stays, start_rest, steps_stay}
use Rattle.lx_tnfa.proofs.Searching.SimplePaths.{SimplePath}
use Rattle.lx_tnfa.proofs.Leaves.TableLeaves.{row_or_none}
use Rattle.lx_tdfa.specs.Graph.{graph_of, path_symbols, rule_starts}
use Rattle.lx_tdfa.specs.Kernels.{Candidate, Key, segment_symbols}
use Rattle.lx_tdfa.specs.Steps.{IsInLeaf}
use Rattle.lx_tdfa.proofs.Walks.ClosureSearches as bridge
use Rattle.lx_tdfa.proofs.Walks.ClosureSearches.{events_of, number_of}
use Rattle.lx_tdfa.proofs.Walks.EndsAlike.{never_away}
use Rattle.lx_tdfa.proofs.Walks.LeafReads.{Reads, number_reads, pick_of, start_choice, start_reads}
use Rattle.lx_tdfa.proofs.Walks.PlainRuns.{Run}
use Rattle.lx_tdfa.proofs.WordKernels.RunSteps.{IsSegment}
use Rattle.lx_tdfa.proofs.Walks.StatePaths.{no_edge, path_end-is, path_symbols-append, path_symbols-units}
use Rattle.lx_tdfa.proofs.Walks.StopPlaces.{AreBeginnings, Begin, begin_beyond, begin_number, begin_stop, leaf_even, start_leaf, state_count}
use Rattle.lx_tdfa.proofs.Walks.StopSteps.{Holds, events_append, start_within, starts_in, state_moves}
use Rattle.lx_tdfa.proofs.Walks.WalkPaths.{at_target, from_path, to_path}
use Rattle.lx_tdfa.proofs.Rules.WithinStates.{moves_stay_within}

module _ (tnfa : Tnfa) (rules : List Term) (is : Holds tnfa rules) where
  -- a segment between numbers of places
  abbrev pub IsBetween : (number unit : ℕ) → Key → (to : ℕ) → Type 0
  IsBetween number unit key to =
      IsSegment (graph_of (automaton rules)) (numbers_after tnfa) (segment_symbols rules (symbols_added tnfa)) (rule_starts rules) number unit key to

  -- What its key says of the choices of the walk: from within a leaf neither goes anywhere; else the walk has one more choice, of a
  -- start of the leaf, of which the key counts those that the unit leads on from.
  pub data Shape (number unit : ℕ) (choices : List ℕ) (key : Key) : Type 0 where
    outside : length (automaton rules) ≤ number → choices ≡ [] → key.way ≡ [] → key.pick ≡ 0 → Shape number unit choices key
    inside : (last index : ℕ) (rest : Residual) (next : ℕ) → number < length (automaton rules)
        → SimplePath (graph_of (automaton rules)) [] number key.way last → choices ≡ key.way ++ index ∷ []
        → IsNth (starts_in tnfa.classes (state_of tnfa.states last)) index rest
        → rest_after tnfa.classes (state_of tnfa.states last) rest.0 unit ≡ Some next
        → key.pick ≡ pick_of tnfa rules is last unit index → Shape number unit choices key

  -- a walk with these choices and events, on to a place over the unit, is this segment
  pub record Matches (number unit : ℕ) (choices : List ℕ) (events : List Event) (place : Place) (key : Key) (to : ℕ) : Type 0 where
    pub between : IsBetween number unit key to
    pub shape : Shape number unit choices key
    pub to_is : to ≡ number_of tnfa place
    pub says : bridge.IsSegment tnfa rules number unit key events
    pub within : IsInLeaf tnfa place

  -- the place in the same leaf after the unit
  pub record After (place : Place) (unit : ℕ) (to : Place) : Type 0 where
    pub next : ℕ
    pub leads : rest_after tnfa.classes (state_at tnfa place) place.rest.0 unit ≡ Some next
    pub to_is : record { part = place.part; rest = numbered next } ≡ to

  pub after_is : (place : Place) (unit : ℕ) (to : Place) → place_after tnfa place unit ≡ Some to → After place unit to
  after_is place unit to e =
      let m =
      mapped_from (λ rest. record { part = place.part; rest = numbered rest }) (rest_after tnfa.classes (state_at tnfa place) place.rest.0 unit) to e in
      record { next = m.0; leads = m.1; to_is = m.2 }

  after_within : (place : Place) (unit : ℕ) (next : ℕ) → IsInLeaf tnfa place
      → rest_after tnfa.classes (state_at tnfa place) place.rest.0 unit ≡ Some next → IsInLeaf tnfa (record { part = place.part; rest = numbered next })
  after_within place unit next within leads = (
    record {
      part = within.0.part;
      rest =
          rest_stays tnfa.classes (state_at tnfa place) place.part place.rest.0 unit next (steps_stay tnfa.enc tnfa.classes is.are) within.0.rest leads;
    },
    within.1,
  )

  -- the place at the beginning of a leaf
  start_place_within : (last index : ℕ) (rest : Residual) → IsNth (starts_in tnfa.classes (state_of tnfa.states last)) index rest
      → IsInLeaf tnfa (record { part = last / 2; rest = rest })
  start_place_within last index rest nth =
      let l = start_leaf tnfa.classes (state_of tnfa.states last) index rest nth in
      let even = (leaf_even tnfa rules is last l).0 in (
        record {
          part = omega (arith, even, start_within tnfa.classes tnfa.states last index rest nth);
          rest = subst (λ n. IsRest tnfa.classes (state_of tnfa.states n) (last / 2) rest.0) (sym even) a_rest;
        },
        positive last even nth,
      )
    where
      a_rest : IsRest tnfa.classes (state_of tnfa.states last) (last / 2) rest.0
      a_rest =
          let choice = start_choice tnfa rules is last index rest nth in
          ⊎_elim
          (λ row. start_rest tnfa is.are row.0 (state_of tnfa.states last) (last / 2) index rest.0 choice.0 row.2 choice.1)
          (λ none. absurd (subst (λ s. IsNth (starts_in tnfa.classes s) index rest) none nth))
          (row_or_none tnfa.classes (automaton rules) tnfa.states last is.states)

      positive : (last : ℕ) → 2 * (last / 2) ≡ last → IsNth (starts_in tnfa.classes (state_of tnfa.states last)) index rest → 0 < last / 2
      positive zero even nth = absurd (subst (λ s. IsNth (starts_in tnfa.classes s) index rest) (state_moves tnfa rules is 0 [] refl) nth)
      positive (suc last) even nth = omega (arith, even)

  -- the symbols of a segment: those of its path, and what the last state adds
  segment_says : (number unit last : ℕ) (key : Key) (events : List Event) (before : List Symbol)
      → SimplePath (graph_of (automaton rules)) [] number key.way last
      → symbols_added tnfa last unit key.pick ≡ before ++ reads unit ∷ [] → units before ≡ [] → events_of before ≡ []
      → events_of (path_symbols (automaton rules) number key.way []) ≡ events → bridge.IsSegment tnfa rules number unit key events
  segment_says number unit last key events before path added silent still says = record {
    before = path_symbols (automaton rules) number key.way before;
    says =
        ap (λ n. path_symbols (automaton rules) number key.way (symbols_added tnfa n unit key.pick))
        (path_end-is (automaton rules) [] number key.way last path)
        ∙ ap (path_symbols (automaton rules) number key.way) added
        ∙ path_symbols-append (automaton rules) number key.way before (reads unit ∷ []);
    silent = path_symbols-units (automaton rules) number key.way before ∙ silent;
    events_are =
        ap events_of (path_symbols-append (automaton rules) number key.way [] before)
        ∙ events_append (path_symbols (automaton rules) number key.way []) before
        ∙ ap₂ (λ a b. a ++ b) says still ∙ append_none events;
  }
    where
      append_none : (l : List Event) → l ++ [] ≡ l
      append_none [] = refl
      append_none (x ∷ l) = ap (λ m. x ∷ m) (append_none l)

  -- from a state to a leaf
  pub inside_matches : (number unit : ℕ) (choices way : List ℕ) (events : List Event) (last index pick to : ℕ) (rest : Residual) (next : ℕ)
      → number < length (automaton rules) → SimplePath (graph_of (automaton rules)) [] number way last → choices ≡ way ++ index ∷ []
      → events_of (path_symbols (automaton rules) number way []) ≡ events → Reads tnfa rules is last unit index pick to rest next
      → Matches number unit choices events (record { part = last / 2; rest = numbered next }) (record { way = way; pick = pick }) to
  inside_matches number unit choices way events last index pick to rest next lt path chosen says r =
      let l = start_leaf tnfa.classes (state_of tnfa.states last) index rest r.start in
      let even = (leaf_even tnfa rules is last l).0 in record {
        between = (last, path, r.nth);
        shape = inside last index rest next lt path chosen r.start r.leads r.pick_is;
        to_is = r.to_is ∙ ap (λ n. place_number tnfa n next) (sym even);
        says = segment_says number unit last (record { way = way; pick = pick }) events r.before path r.added r.silent r.still says;
        within =
            after_within (record { part = last / 2; rest = rest }) unit next (start_place_within last index rest r.start)
            (ap (λ n. rest_after tnfa.classes (state_of tnfa.states n) rest.0 unit) even ∙ r.leads);
      }

  -- within a leaf
  middle_numbers : (place : Place) (number unit : ℕ) → Begin tnfa rules is (AtTarget (Leaf place)) number
      → numbers_after tnfa number unit
      ≡ map (place_number tnfa (2 * place.part)) (option_to_list (rest_after tnfa.classes (state_at tnfa place) place.rest.0 unit))
  middle_numbers place number unit b =
      read_at tnfa (λ turn l. numbers_from tnfa turn l unit) number (suc place.rest.0) (2 * place.part) b.0.0.part
      (b.2 ∙ unfinished_number tnfa (2 * place.part) place.rest.0 b.1)

  middle_symbols : (place : Place) (number unit pick : ℕ) → Begin tnfa rules is (AtTarget (Leaf place)) number
      → symbols_added tnfa number unit pick ≡ reads unit ∷ []
  middle_symbols place number unit pick b =
      read_at tnfa (λ turn l. symbols_from tnfa turn l unit pick) number (suc place.rest.0) (2 * place.part) b.0.0.part
      (b.2 ∙ unfinished_number tnfa (2 * place.part) place.rest.0 b.1)

  pub outside_matches : (number unit : ℕ) (place : Place) (next : ℕ) → Begin tnfa rules is (AtTarget (Leaf place)) number
      → rest_after tnfa.classes (state_at tnfa place) place.rest.0 unit ≡ Some next
      → Matches number unit [] [] (record { part = place.part; rest = numbered next }) (record { way = []; pick = 0 })
      (place_number tnfa (2 * place.part) next)
  outside_matches number unit place next b leads =
      let path : SimplePath (graph_of (automaton rules)) [] number [] number = ((λ m. m), refl) in record {
        between = (
          number,
          path,
          subst (λ l. IsNth l 0 (place_number tnfa (2 * place.part) next)) (sym (middle_numbers place number unit b))
              (subst (λ o. IsNth (map (place_number tnfa (2 * place.part)) (option_to_list o)) 0 (place_number tnfa (2 * place.part) next)) (sym leads) refl),
        );
        shape = outside (begin_beyond tnfa rules is place number b) refl refl refl;
        to_is = refl;
        says = segment_says number unit number (record { way = []; pick = 0 }) [] [] path (middle_symbols place number unit 0 b) refl refl refl;
        within = after_within place unit next b.0 leads;
      }

  -- paths stay within the states, or outside of them
  last_within : (avoided : List ℕ) (number : ℕ) (way : List ℕ) (last : ℕ) → number < length (automaton rules)
      → SimplePath (graph_of (automaton rules)) avoided number way last → last < length (automaton rules)
  last_within avoided number [] last lt path = subst (λ n. n < length (automaton rules)) path.1 lt
  last_within avoided number (choice ∷ way) last lt path =
      last_within (number ∷ avoided) path.1.0 way last (moves_stay_within rules number choice path.1.0 path.1.1) path.1.2

  far_path : (avoided : List ℕ) (number : ℕ) (way : List ℕ) (last : ℕ) → length (automaton rules) ≤ number
      → SimplePath (graph_of (automaton rules)) avoided number way last → (way ≡ []) × (number ≡ last)
  far_path avoided number [] last le path = (refl, path.1)
  far_path avoided number (choice ∷ way) last le path = absurd (no_edge (automaton rules) number choice path.1.0 le path.1.1)

  key_is : (key : Key) → key.way ≡ [] → key.pick ≡ 0 → record { way = []; pick = 0 } ≡ key
  key_is key way pick = λ i. record { way = sym way i; pick = sym pick i }

  module _ (stops : List Stop) (numbers : List ℕ) (begin : AreBeginnings tnfa rules is stops numbers) (unit : ℕ) where
    -- a walk on to a place over the unit, from the stop with this index, as a candidate
    pub record Follows (index : ℕ) (choices : List ℕ) (events : List Event) (place : Place) (candidate : Candidate) : Type 0 where
      pub from : candidate.from ≡ index
      pub number : ℕ
      pub at : IsNth numbers index number
      pub matches : Matches number unit choices events place candidate.key candidate.to

    -- each walk to a leaf that reads the unit has a candidate
    pub run_candidate : (index : ℕ) (choices : List ℕ) (events : List Event) (place to : Place)
        → Run tnfa stops index choices events (Leaf place) → place_after tnfa place unit ≡ Some to
        → (candidate : Candidate) × Follows index choices events to candidate
    run_candidate index choices events place to run e =
        let number = begin_number tnfa rules is stops numbers index run.stop begin run.at in
        at run.stop number.0 number.1 number.2 run.walk (after_is place unit to e)
      where
        at : (stop : Stop) (number : ℕ) → IsNth numbers index number → Begin tnfa rules is stop number
            → IsWalk tnfa stop choices run.visited events (AtTarget (Leaf place)) → After place unit to
            → (candidate : Candidate) × Follows index choices events to candidate
        at (AtState state) number nth b walk after =
            let f = to_path tnfa rules is [] state choices run.visited events (Leaf place) b.1 (λ m. m) walk run.once run.live (never_away run.visited) in
            let l = start_leaf tnfa.classes (state_of tnfa.states f.last) f.lands.0 place.rest f.lands.2 in
            let even : 2 * place.part ≡ f.last = ap (λ n. 2 * n) f.lands.3 ∙ (leaf_even tnfa rules is f.last l).0 in
            let leads : rest_after tnfa.classes (state_of tnfa.states f.last) place.rest.0 unit ≡ Some after.next =
            ap (λ n. rest_after tnfa.classes (state_of tnfa.states n) place.rest.0 unit) (sym even) ∙ after.leads in
            let r = start_reads tnfa rules is f.last unit f.lands.0 place.rest after.next f.lands.2 f.lands.4 leads in
            let m =
            inside_matches state unit choices f.way events f.last f.lands.0 (pick_of tnfa rules is f.last unit f.lands.0)
            (place_number tnfa f.last after.next) place.rest after.next (omega (arith, b.2, state_count tnfa rules is)) f.path f.lands.1 f.says r in (
              record {
                from = index;
                key = record { way = f.way; pick = pick_of tnfa rules is f.last unit f.lands.0 };
                to = place_number tnfa f.last after.next;
              },
              record {
                from = refl;
                number = number;
                at = nth;
                matches =
                    subst
                    (λ n. Matches n unit choices events to (record { way = f.way; pick = pick_of tnfa rules is f.last unit f.lands.0 })
                    (place_number tnfa f.last after.next)) b.0
                    (subst
                    (λ p. Matches state unit choices events p (record { way = f.way; pick = pick_of tnfa rules is f.last unit f.lands.0 })
                    (place_number tnfa f.last after.next))
                    (ap (λ n. record { part = n; rest = numbered after.next }) (sym f.lands.3) ∙ after.to_is) m);
              },
            )
        at (AtTarget (Leaf other)) number nth b walk after =
            let stays = at_target tnfa rules is (Leaf other) choices run.visited events (Leaf place) walk in
            let same : other ≡ place = leaf_same other place stays.2 in
            let leads : rest_after tnfa.classes (state_at tnfa other) other.rest.0 unit ≡ Some after.next =
            ap (λ (p : Place). rest_after tnfa.classes (state_at tnfa p) p.rest.0 unit) same ∙ after.leads in
            let m = outside_matches number unit other after.next b leads in
            let key : Key = record { way = []; pick = 0 } in
            let end : ℕ = place_number tnfa (2 * other.part) after.next in (
              record { from = index; key = record { way = []; pick = 0 }; to = place_number tnfa (2 * other.part) after.next },
              record {
                from = refl;
                number = number;
                at = nth;
                matches =
                    subst (λ c. Matches number unit c events to key end) (sym stays.0)
                    (subst (λ v. Matches number unit [] v to key end) (sym stays.1)
                    (subst (λ p. Matches number unit [] [] p key end)
                    (ap (λ (p : Place). record { part = p.part; rest = numbered after.next }) same ∙ after.to_is) m));
              },
            )
          where
            leaf_same : (p q : Place) → Leaf p ≡ Leaf q → p ≡ q
            leaf_same p q e = cc
        at (AtTarget (End rule)) number nth b walk after = absurd b

    -- and each candidate one
    pub record Backwards (candidate : Candidate) : Type 0 where
      pub choices : List ℕ
      pub events : List Event
      pub place : Place
      pub to : Place
      pub run : Run tnfa stops candidate.from choices events (Leaf place)
      pub after : place_after tnfa place unit ≡ Some to
      pub follows : Follows candidate.from choices events to candidate

    pub candidate_run : (candidate : Candidate) (number : ℕ) → IsNth numbers candidate.from number
        → IsBetween number unit candidate.key candidate.to → Backwards candidate
    candidate_run candidate number nth between =
        let stop = begin_stop tnfa rules is stops numbers candidate.from number begin nth in
        at stop.0 stop.1 stop.2
      where
        at : (stop : Stop) → IsNth stops candidate.from stop → Begin tnfa rules is stop number → Backwards candidate
        at (AtState state) s b =
            let path = subst (λ n. SimplePath (graph_of (automaton rules)) [] n candidate.key.way between.0) (sym b.0) between.1 in
            let below = last_within [] state candidate.key.way between.0 (omega (arith, b.2, state_count tnfa rules is)) path in
            let r =
            number_reads tnfa rules is between.0 unit candidate.key.pick candidate.to (omega (arith, below, state_count tnfa rules is)) between.2 in
            let place : Place = record { part = between.0 / 2; rest = r.1 } in
            let to : Place = record { part = between.0 / 2; rest = numbered r.2 } in
            let choices : List ℕ = candidate.key.way ++ r.0 ∷ [] in
            let w =
            from_path tnfa rules is [] state candidate.key.way between.0 choices (Leaf place) b.1 path (r.0, refl, r.3.start, refl, r.3.reaches) in
            let l = start_leaf tnfa.classes (state_of tnfa.states between.0) r.0 r.1 r.3.start in
            let even = (leaf_even tnfa rules is between.0 l).0 in
            let m =
            inside_matches state unit choices candidate.key.way w.events between.0 r.0 candidate.key.pick candidate.to r.1 r.2
            (omega (arith, b.2, state_count tnfa rules is)) path refl w.says r.3 in record {
              choices = choices;
              events = w.events;
              place = place;
              to = to;
              run = record { stop = AtState state; at = s; visited = w.visited; walk = w.walk; once = w.once; live = w.live };
              after =
                  ap (option_map (λ rest. record { part = between.0 / 2; rest = numbered rest }))
                  (ap (λ n. rest_after tnfa.classes (state_of tnfa.states n) r.1.0 unit) even ∙ r.3.leads);
              follows = record {
                from = refl;
                number = number;
                at = nth;
                matches = subst (λ n. Matches n unit choices w.events to candidate.key candidate.to) b.0 m;
              };
            }
        at (AtTarget (Leaf place)) s b =
            let far = far_path [] number candidate.key.way between.0 (begin_beyond tnfa rules is place number b) between.1 in
            let n : IsNth (numbers_after tnfa number unit) candidate.key.pick candidate.to =
            subst (λ t. IsNth (numbers_after tnfa t unit) candidate.key.pick candidate.to) (sym far.1) between.2 in
            let o =
            nth_option (place_number tnfa (2 * place.part)) (rest_after tnfa.classes (state_at tnfa place) place.rest.0 unit) candidate.key.pick candidate.to
            (subst (λ l. IsNth l candidate.key.pick candidate.to) (middle_numbers place number unit b) n) in
            let to : Place = record { part = place.part; rest = numbered o.0 } in record {
              choices = [];
              events = [];
              place = place;
              to = to;
              run = record {
                stop = AtTarget (Leaf place);
                at = s;
                visited = AtTarget (Leaf place) ∷ [];
                walk = (refl, refl, refl);
                once = (tt, tt);
                live = ((λ dead. dead), tt);
              };
              after = ap (option_map (λ rest. record { part = place.part; rest = numbered rest })) o.1;
              follows = record {
                from = refl;
                number = number;
                at = nth;
                matches =
                    subst (λ k. Matches number unit [] [] to k candidate.to) (key_is candidate.key far.0 o.3)
                    (subst (Matches number unit [] [] to (record { way = []; pick = 0 })) o.2 (outside_matches number unit place o.0 b o.1));
              };
            }
        at (AtTarget (End rule)) s b = absurd b
