-- What the list after a word accepts: the first rule that has a tree for the word, and the best tree of that rule.
use Rattle.std.proofs.Common.{inl, inr, sym, ap, ap₂, ◌∙◌, subst, arith, append-nil, ⊎_elim}
use Rattle.std.proofs.lemmas.Bool.{cases_lt}
use Rattle.std.specs.Prelude.{◌≡◌, ℕ, zero, suc, ◌+◌, ◌<◌, ◌≤◌, ◌⊎◌, List, [], ◌∷◌, ◌++◌, map, Option, Some, None, slice_get, refl}
use Rattle.lx_base.specs.declared.settings.Enc.{Enc}
use Rattle.lx_regex.specs.Automaton.{automaton}
use Rattle.lx_regex.specs.Cut.{GoesOn, SamePlace, rule_part}
use Rattle.lx_regex.specs.Dictionary.{IsBefore}
use Rattle.lx_regex.specs.Least.{HasTree}
use Rattle.lx_regex.specs.Order.{posix}
use Rattle.lx_regex.specs.Plain.{IsPlain}
use Rattle.lx_regex.specs.Posix.{IsLonger, length_at, shape_of, whole}
use Rattle.lx_regex.specs.Script.{Symbol, choices, script, units}
use Rattle.lx_regex.specs.Term.{Term}
use Rattle.lx_regex.specs.Tree.{Tree}
use Rattle.lx_regex.proofs.KernelCuts.Cuts.{rule_positive}
use Rattle.lx_regex.proofs.KernelCuts.Kernels.{before_asym}
use Rattle.lx_regex.proofs.PosixTrees.PosixOrder.{longer_asym}
use Rattle.lx_regex.proofs.Walks.Fronts.{before_self}
use Rattle.lx_regex.proofs.Walks.PlainWalk.{plain_list, units_append}
use Rattle.lx_regex.proofs.Walks.Scripts.{differs_is_before, scripts_differ}
use Rattle.lx_tnfa.specs.DepthFirst.{Found, IsIn, decide_in, search_from}
use Rattle.lx_tnfa.specs.LeafReadings.{IsNth, NumbersLeaves}
use Rattle.lx_tnfa.proofs.Construction.NthLists.{nth_map, nth_unmap}
use Rattle.lx_tnfa.proofs.Searching.SearchLaws.{IsAscending}
use Rattle.lx_tnfa.proofs.Searching.SearchUnique.{IsBefore-cases, IsBefore-trans}
use Rattle.lx_tnfa.proofs.Searching.SimplePaths.{SimplePath, SimplePathFrom}
use Rattle.lx_tdfa.specs.Accepts.{Accepts, IsAccepted, first_end, first_final, if_final, none, some}
use Rattle.lx_tdfa.specs.Graph.{graph_of, path_symbols, rule_starts}
use Rattle.lx_tdfa.specs.Kernels.{Entry, Key, cut_of, first_entries, places, rule_of}
use Rattle.lx_tdfa.proofs.Rules.StateOrder.{automaton_in_order}
use Rattle.lx_tdfa.proofs.Values.ValueSteps.{forwards}
use Rattle.lx_tdfa.proofs.Walks.Closures.{IsSearchList, search_from-list}
use Rattle.lx_tdfa.proofs.Walks.StatePaths.{path_symbols-units}
use Rattle.lx_tdfa.proofs.WordKernels.AcceptedTrees.{plain_run, run_tree, tree_run}
use Rattle.lx_tdfa.proofs.WordKernels.KernelsListed.{same_number}
use Rattle.lx_tdfa.proofs.WordKernels.OrderedLists.{IsMember, at_zero_nth, each_member, nth_at_zero, nth_same}
use Rattle.lx_tdfa.proofs.WordKernels.RunCuts.{run_cut, run_word}
use Rattle.lx_tdfa.proofs.WordKernels.RunOrder.{path_order}
use Rattle.lx_posix.specs.Accepts.{IsFirstAccept}
use Rattle.lx_posix.specs.PosixKernel.{IsBestPosix, IsPosixKernel}
use Rattle.lx_posix.proofs.Ends.FirstAccept.{accept_is_best, lesser_end, same_scripts}
use Rattle.lx_posix.proofs.Kernels.PosixKernels.{from_posix}
use Rattle.lx_posix.proofs.Lists.RankedCuts.{AreRanked}
use Rattle.lx_posix.proofs.Lists.RankedKernels.{each_kernel, each_ranked, entries_of, ranks_of}
use Rattle.lx_posix.proofs.Lists.RankedSteps.{Run, front_of_run, nth_of_slice, one_front, one_source, slice_of_nth}

-- the first of some that ends, if one does
data IsFirstFinal (finals : List ℕ) (es : List Found) : Option Found → Type 0 where
  ends_nowhere : ((e : Found) → IsMember es e → IsIn finals e.state → ⊥) → IsFirstFinal finals es None
  ends_at : (e : Found) → IsMember es e → IsIn finals e.state
      → ((f : Found) → IsMember es f → IsIn finals f.state → (f ≡ e) ⊎ IsBefore e.choices f.choices) → IsFirstFinal finals es (Some e)

first_final-is : (finals : List ℕ) (es : List Found) → IsAscending es → IsFirstFinal finals es (first_final finals es)
first_final-is finals [] a = ends_nowhere (λ e m k. m)
first_final-is finals (x ∷ es) a = go (decide_in finals x.state) (first_final finals es) (first_final-is finals es a.1)
  where
    later : (f : Found) → IsMember (x ∷ es) f → (f ≡ x) ⊎ IsBefore x.choices f.choices
    later f (inl h) = inl (sym h)
    later f (inr m) = inr (each_member (λ (f : Found). IsBefore x.choices f.choices) es f a.0 m)

    behind : (o : Option Found) → (IsIn finals x.state → ⊥) → IsFirstFinal finals es o → IsFirstFinal finals (x ∷ es) o
    behind o n (ends_nowhere f) =
        ends_nowhere (λ e m k. elim m [ inl h ↦ n (subst (λ (y : Found). IsIn finals y.state) (sym h) k) | inr i ↦ f e i k ])
    behind o n (ends_at e m k f) = ends_at e (inr m) k (λ g j i. elim j [
      | inl h ↦ absurd (n (subst (λ (y : Found). IsIn finals y.state) (sym h) i))
      | inr q ↦ f g q i
    ])

    go : (d : Dec (IsIn finals x.state)) (o : Option Found) → IsFirstFinal finals es o
        → IsFirstFinal finals (x ∷ es) (if_final d (Some x) o)
    go (yes h) o r = ends_at x (inl refl) h (λ f m k. later f m)
    go (no h) o r = behind o h r

module _ (enc : Enc) (rules : List Term) (next : ℕ → ℕ → List ℕ) (added : ℕ → ℕ → ℕ → List Symbol) (number : ℕ → List Symbol → ℕ)
    (numbers : NumbersLeaves enc rules next added number) where
  abbrev list_of : List ℕ → List Entry
  list_of w = entries_of enc rules next added number numbers w

  abbrev RunOf : List ℕ → List Key → List Symbol → ℕ → Type 0
  RunOf w ks F q = Run enc rules next added number numbers w ks F q

  abbrev PathToEnd : (place : ℕ) → (way : List ℕ) → Type 0
  PathToEnd p ws = SimplePath (graph_of (automaton rules)) [] p ws 0

  abbrev way_on : (place : ℕ) → (way : List ℕ) → List Symbol
  way_on p ws = path_symbols (automaton rules) p ws []

  begin_has : (n : ℕ) (starts : List ℕ) (i p : ℕ) → IsNth starts i p
      → IsNth (first_entries n starts) i (record { place = p; keys = record { way = []; pick = n + i } ∷ []; front = [] })
  begin_has n [] i p h = absurd h
  begin_has n (x ∷ starts) zero p h =
      let z : n ≡ n + 0 = omega arith in
      ap₂ (λ a b. record { place = a; keys = record { way = []; pick = b } ∷ []; front = [] }) h z
  begin_has n (x ∷ starts) (suc i) p h =
      let z : suc n + i ≡ n + suc i = omega arith in
      subst (λ m. IsNth (first_entries (suc n) starts) i (record { place = p; keys = record { way = []; pick = m } ∷ []; front = [] })) z
      (begin_has (suc n) starts i p h)

  -- the entry at the place of a run
  record EntryAt (w : List ℕ) (ks : List Key) (q : ℕ) : Type 0 where
    index : ℕ
    entry : Entry
    at : IsNth (list_of w) index entry
    place : entry.place ≡ q
    rule : rule_of entry.keys ≡ rule_of ks

  entry_has : (w : List ℕ) (ks : List Key) (F : List Symbol) (q : ℕ) → RunOf w ks F q → EntryAt w ks q
  entry_has [] [] F q r = absurd r
  entry_has [] (k ∷ ks) F q r =
      let z : 0 + k.pick ≡ k.pick = omega arith in
      record {
        index = k.pick;
        entry = record { place = q; keys = record { way = []; pick = 0 + k.pick } ∷ []; front = [] };
        at = begin_has 0 (rule_starts rules) k.pick q r.2;
        place = refl;
        rule = z ∙ ap (λ l. rule_of (k ∷ l)) (sym r.0);
      }
  entry_has (u ∷ v) ks F q r =
      let is = run_cut enc rules next added number numbers u v ks F q r in
      let kernel = each_kernel enc rules next added number numbers u v in
      let f = kernel.every (record { rule = rule_of ks; front = F }) (some_word (forwards v)) is in
      let e = nth_unmap cut_of (list_of (u ∷ v)) f.0 f.1 (nth_of_slice (map cut_of (list_of (u ∷ v))) f.0 f.1 f.2) in
      let same = subst (λ k. SamePlace enc rules k (record { rule = rule_of ks; front = F })) (sym e.2) f.3 in
      record {
        index = f.0;
        entry = e.0;
        at = e.1;
        place =
            same_number enc rules next added number numbers u v u v e.0.keys ks e.0.front F e.0.place q
            ((each_ranked enc rules next added number numbers (u ∷ v)).run f.0 e.0 e.1) r same;
        rule = same.rule;
      }
    where
      some_word : (l : List ℕ) → l ++ u ∷ [] ≡ [] → ⊥
      some_word [] e = cc
      some_word (x ∷ l) e = cc

  module _ (w : List ℕ) where
    are : AreRanked enc rules next added number numbers w (list_of w) (ranks_of enc rules next added number numbers w)
    are = each_ranked enc rules next added number numbers w

    -- what goes on from an entry to the end is a path
    record EndsBy (e : Entry) (more : List Symbol) : Type 0 where
      way : List ℕ
      path : PathToEnd e.place way
      says : more ≡ way_on e.place way

    same_tail : (a b c d : List Symbol) → a ≡ b → a ++ c ≡ b ++ d → c ≡ d
    same_tail [] [] c d e f = f
    same_tail [] (x ∷ b) c d e f = cc
    same_tail (x ∷ a) [] c d e f = cc
    same_tail (x ∷ a) (y ∷ b) c d e f = same_tail a b c d (cc) (cc)

    ends_by : (i : ℕ) (e : Entry) (more : List Symbol) → IsNth (list_of w) i e → units more ≡ [] → GoesOn enc rules (cut_of e) more
        → EndsBy e more
    ends_by i e more at um go =
        let er = are.run i e at in
        let us = run_word enc rules next added number numbers w e.keys e.front e.place er in
        let yields : units (script enc (rule_part rules (rule_of e.keys)) go.1) ≡ forwards w =
        ap units go.3 ∙ units_append e.front more ∙ ap₂ (λ a b. a ++ b) us um ∙ append-nil (forwards w) in
        let r = tree_run enc rules next added number numbers w (rule_of e.keys) go.0 go.2 go.1 go.4 yields in
        let both : r.front ++ way_on r.place r.way ≡ e.front ++ more = sym r.says ∙ go.3 in
        let front : r.front ≡ e.front =
        one_front enc r.front e.front (way_on r.place r.way) more both
        (run_word enc rules next added number numbers w r.keys r.front r.place r.run ∙ sym us)
        (front_of_run enc rules next added number numbers w r.keys r.front r.place r.run)
        (front_of_run enc rules next added number numbers w e.keys e.front e.place er) in
        let place : r.place ≡ e.place =
        one_source enc rules next added number numbers w r.keys e.keys e.front r.place e.place
        (subst (λ l. RunOf w r.keys l r.place) front r.run) er r.rule in
        record {
          way = r.way;
          path = subst (λ p. PathToEnd p r.way) place r.path;
          says =
              sym (same_tail r.front e.front (way_on r.place r.way) more front both) ∙ ap (λ p. way_on p r.way) place;
        }

    -- the place and the way that a search finds first
    module _ (i : ℕ) (ws : List ℕ) (x : Entry) (at : IsNth (list_of w) i x) (path : SimplePath (graph_of (automaton rules)) [] x.place ws 0)
        (never : (j : ℕ) (y : Entry) (way : List ℕ) → IsNth (list_of w) j y → SimplePath (graph_of (automaton rules)) [] y.place way 0
        → IsBefore (j ∷ way) (i ∷ ws) → ⊥) where
      abbrev rule : ℕ
      rule = rule_of x.keys

      abbrev rest : List Symbol
      rest = way_on x.place ws

      -- no way from the place has lesser choices
      no_lesser : (more : List Symbol) → units more ≡ [] → GoesOn enc rules (cut_of x) more → IsBefore (choices more) (choices rest) → ⊥
      no_lesser more um go b =
          let e = ends_by i x more at um go in
          by e.way e.path (subst (λ l. IsBefore (choices l) (choices rest)) e.says b) (IsBefore-cases e.way ws)
        where
          by : (way : List ℕ) → PathToEnd x.place way → IsBefore (choices (way_on x.place way)) (choices rest)
              → IsBefore way ws ⊎ ((way ≡ ws) ⊎ IsBefore ws way) → ⊥
          by way p b (inl c) = never i x way at p (inr (refl, c))
          by way p b (inr (inl e)) = before_self (choices rest) (subst (λ v. IsBefore (choices (way_on x.place v)) (choices rest)) e b)
          by way p b (inr (inr c)) =
              before_asym (choices rest) (choices (way_on x.place way))
              (differs_is_before (choices rest) (choices (way_on x.place way))
              (path_order (automaton rules) (automaton_in_order rules) [] [] x.place ws way 0 0 (λ i c h. h) path p c [] [])) b

      tree : (e : Term) × (t : Tree e) × (slice_get rules rule ≡ Some e) × (script enc (rule_part rules rule) t ≡ x.front ++ rest)
          × IsPlain (script enc (rule_part rules rule) t)
      tree =
          let t = run_tree enc rules next added number numbers w x.keys x.front x.place ws (are.run i x at) path in
          (t.0, t.1, t.2, t.3, subst IsPlain (sym t.3) (plain_list _ t.4))

      no_units : units rest ≡ []
      no_units = path_symbols-units (automaton rules) x.place ws []

      goes : GoesOn enc rules (cut_of x) rest
      goes = (tree.0, tree.1, tree.2, tree.3, subst IsPlain refl tree.4)

      no_earlier : (j : ℕ) (y : Entry) → j < i → IsNth (list_of w) j y → (more : List Symbol) → units more ≡ []
          → GoesOn enc rules (cut_of y) more → ⊥
      no_earlier j y lt h more um go = let e = ends_by j y more h um go in never j y e.way h e.path (inl lt)

      first_rule : (earlier : ℕ) (e : Term) → earlier < rule → slice_get rules earlier ≡ Some e
          → HasTree enc (rule_part rules earlier) e (forwards w) → ⊥
      first_rule earlier e lt h t =
          let r = (plain_run enc rules next added number numbers w earlier e h t.0 t.1).1 in
          let y = entry_has w r.keys r.front r.place r.run in
          let p : PathToEnd y.entry.place r.way = subst (λ q. PathToEnd q r.way) (sym y.place) r.path in
          let same : rule_of y.entry.keys ≡ earlier = y.rule ∙ r.rule in
          ⊎_elim
          (λ less. never y.index y.entry r.way y.at p (inl less))
          (λ more. later y.index y.entry y.at more (omega arith))
          (cases_lt y.index i)
        where
          later : (j : ℕ) (y : Entry) → IsNth (list_of w) j y → i ≤ j → rule_of y.keys < rule_of x.keys → ⊥
          later j y h le less =
              ⊎_elim
              (λ lt. ⊎_elim (λ r. omega arith) (λ o. let z = o.0 in omega arith) (are.order i j x y lt at h))
              (λ ge.
              let e : i ≡ j = omega arith in
              let z : rule_of x.keys ≡ rule_of y.keys =
              ap (λ (q : Entry). rule_of q.keys) (nth_same (list_of w) j x y (subst (λ n. IsNth (list_of w) n x) e at) h) in
              omega arith)
              (cases_lt i j)

      accepted : IsBestPosix enc (rule_part rules rule) tree.0 (forwards w) tree.1
          → IsAccepted posix enc rules (forwards w) rule (x.front ++ rest)
      accepted best = record { term = tree.0; tree = tree.1; at = tree.2; says = tree.3; least = best; first = first_rule }

      is_first : IsFirstAccept enc rules (map cut_of (list_of w)) i (cut_of x) rest
      is_first = record {
        stands = slice_of_nth (map cut_of (list_of w)) i (cut_of x) (nth_map cut_of (list_of w) i x at);
        without_unit = no_units;
        ends_rule = goes;
        first_place = λ j other more lt h same um go.
            let b = nth_unmap cut_of (list_of w) j other (nth_of_slice (map cut_of (list_of w)) j other h) in
            no_earlier j b.0 lt b.1 more um (subst (λ k. GoesOn enc rules k more) (sym b.2) go);
        first_walk = no_lesser;
      }

      -- without a unit the choices decide
      best_empty : (f : forwards w ≡ []) → x.front ≡ [] → IsBestPosix enc (rule_part rules rule) tree.0 [] tree.1
      best_empty f z =
          record { yields = yields; plain = tree.4; least = λ s us pl longer. worse s us pl longer }
        where
          says : script enc (rule_part rules rule) tree.1 ≡ rest
          says = tree.3 ∙ ap (λ l. l ++ rest) z

          yields : units (script enc (rule_part rules rule) tree.1) ≡ []
          yields = ap units says ∙ no_units

          worse : (s : Tree tree.0) → units (script enc (rule_part rules rule) s) ≡ [] → IsPlain (script enc (rule_part rules rule) s)
              → IsLonger enc s tree.1 → ⊥
          worse s us pl longer =
              ⊎_elim
              (λ same. same_scripts enc rules (rule_part rules rule) s tree.1 same longer)
              (λ d. ⊎_elim
              (λ d.
              let go : GoesOn enc rules (cut_of x) (script enc (rule_part rules rule) s) =
              (tree.0, s, tree.2, ap (λ l. l ++ script enc (rule_part rules rule) s) (sym z), pl) in
              no_lesser (script enc (rule_part rules rule) s) us go
              (subst (λ l. IsBefore (choices (script enc (rule_part rules rule) s)) (choices l)) says (differs_is_before _ _ d)))
              (λ d.
              longer_asym (λ q. length_at (whole enc s) (shape_of enc s) q)
              (λ q. length_at (whole enc tree.1) (shape_of enc tree.1) q) longer
              (lesser_end enc (rule_part rules rule) (rule_positive rules rule) tree.1 s [] (script enc (rule_part rules rule) tree.1)
              (script enc (rule_part rules rule) s) refl refl yields us d)) d)
              (scripts_differ enc tree.0 (rule_part rules rule) (rule_positive rules rule) s tree.1 (us ∙ sym yields))

  -- the first that is found is the best
  best_of : (w : List ℕ) (i : ℕ) (ws : List ℕ) (x : Entry) → IsNth (list_of w) i x → PathToEnd x.place ws
      → ((j : ℕ) (y : Entry) (way : List ℕ) → IsNth (list_of w) j y → PathToEnd y.place way → IsBefore (j ∷ way) (i ∷ ws) → ⊥)
      → IsAccepted posix enc rules (forwards w) (rule_of x.keys) (x.front ++ way_on x.place ws)
  best_of [] i ws x at path never =
      accepted [] i ws x at path never (best_empty [] i ws x at path never refl (bare i x at))
    where
      bare : (i : ℕ) (x : Entry) → IsNth (list_of []) i x → x.front ≡ []
      bare i x h = run_front x.keys ((are []).run i x h)
        where
          run_front : (ks : List Key) → RunOf [] ks x.front x.place → x.front ≡ []
          run_front [] r = absurd r
          run_front (k ∷ ks) r = r.3
  best_of (u ∷ v) i ws x at path never =
      let t = tree (u ∷ v) i ws x at path never in
      let b = some_word (forwards v) in
      accepted (u ∷ v) i ws x at path never
      (subst (λ l. IsBestPosix enc (rule_part rules (rule_of x.keys)) t.0 l t.1) (sym b.2)
      (accept_is_best enc rules b.0 b.1 (map cut_of (list_of (u ∷ v))) i (cut_of x) (way_on x.place ws) t.0 t.1
      (from_posix enc rules b.0 b.1 (map cut_of (list_of (u ∷ v)))
      (subst (λ l. IsPosixKernel enc rules l (map cut_of (list_of (u ∷ v)))) b.2 (each_kernel enc rules next added number numbers u v)))
      (is_first (u ∷ v) i ws x at path never) t.2 t.3))
    where
      some_word : (l : List ℕ) → (y : ℕ) × (k : List ℕ) × (l ++ u ∷ [] ≡ y ∷ k)
      some_word [] = (u, [], refl)
      some_word (y ∷ l) = (y, l ++ u ∷ [], refl)

  pub accepts_best : (w : List ℕ) → Accepts posix enc rules (forwards w) (list_of w)
      (first_end (graph_of (automaton rules)) (0 ∷ []) (list_of w))
  accepts_best w = of (search_from (graph_of (automaton rules)) [] (places (list_of w)))
      (search_from-list (graph_of (automaton rules)) (places (list_of w)))
    where
      zero_is : (t : ℕ) → IsIn (0 ∷ []) t → 0 ≡ t
      zero_is t (inl e) = e
      zero_is t (inr k) = absurd k

      of : (xs : List Found) → IsSearchList (graph_of (automaton rules)) (places (list_of w)) xs
          → Accepts posix enc rules (forwards w) (list_of w) (first_final (0 ∷ []) xs)
      of xs C = go (first_final (0 ∷ []) xs) (first_final-is (0 ∷ []) xs C.order)
        where
          there : (j : ℕ) (y : Entry) (way : List ℕ) → IsNth (list_of w) j y → PathToEnd y.place way
              → (e : Found) × IsMember xs e × (e.state ≡ 0) × (IsBefore (j ∷ way) e.choices → ⊥)
          there j y way h p =
              C.complete (j ∷ way) 0
              (y.place, nth_at_zero (places (list_of w)) j y.place (nth_map (λ (e : Entry). e.place) (list_of w) j y h), p)

          go : (o : Option Found) → IsFirstFinal (0 ∷ []) xs o → Accepts posix enc rules (forwards w) (list_of w) o
          go o (ends_nowhere f) = none (λ r e h t.
              let q = (plain_run enc rules next added number numbers w r e h t.0 t.1).1 in
              let y = entry_has w q.keys q.front q.place q.run in
              let c = there y.index y.entry q.way y.at (subst (λ p. PathToEnd p q.way) (sym y.place) q.path) in
              f c.0 c.1 (inl (sym c.2)))
          go o (ends_at e m k f) = by e.choices refl
            where
              by : (cs : List ℕ) → e.choices ≡ cs → Accepts posix enc rules (forwards w) (list_of w) (Some e)
              by [] q = absurd (subst (λ c. SimplePathFrom (graph_of (automaton rules)) [] 0 (places (list_of w)) c e.state) q
                  (C.sound e m))
              by (i ∷ ws) q =
                  let c = subst (λ c. SimplePathFrom (graph_of (automaton rules)) [] 0 (places (list_of w)) c e.state) q (C.sound e m) in
                  let x = nth_unmap (λ (y : Entry). y.place) (list_of w) i c.0 (at_zero_nth (places (list_of w)) i c.0 c.1) in
                  let path : PathToEnd x.0.place ws =
                  subst (λ p. PathToEnd p ws) (sym x.2)
                  (subst (λ t. SimplePath (graph_of (automaton rules)) [] c.0 ws t) (sym (zero_is e.state k)) c.2) in
                  some e i ws x.0 q x.1 (best_of w i ws x.0 x.1 path never)
                where
                  never : (j : ℕ) (y : Entry) (way : List ℕ) → IsNth (list_of w) j y → PathToEnd y.place way → IsBefore (j ∷ way) (i ∷ ws)
                      → ⊥
                  never j y way h p b =
                      let c = there j y way h p in
                      let b' : IsBefore (j ∷ way) e.choices = subst (λ l. IsBefore (j ∷ way) l) (sym q) b in
                      ⊎_elim
                      (λ s. c.3 (subst (λ (g : Found). IsBefore (j ∷ way) g.choices) (sym s) b'))
                      (λ l. c.3 (IsBefore-trans (j ∷ way) e.choices c.0.choices b' l))
                      (f c.0 c.1 (inl (sym c.2)))
