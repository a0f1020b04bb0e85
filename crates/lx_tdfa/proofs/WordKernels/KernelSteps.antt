-- The computed list holds the first runs: of the segments over a unit, which a search finds, the first to each place is kept.
use Rattle.std.proofs.Common.{inl, inr, sym, ap, ap₂, ◌∙◌, subst, arith}
use Rattle.std.specs.Prelude.{◌≡◌, ℕ, zero, suc, ◌+◌, ◌<◌, ◌⊎◌, List, [], ◌∷◌, refl}
use Rattle.lx_regex.specs.Dictionary.{IsBefore}
use Rattle.lx_regex.specs.Script.{Symbol}
use Rattle.lx_tnfa.specs.LeafReadings.{IsNth}
use Rattle.lx_tnfa.specs.DepthFirst.{Found, IsIn, decide_in, search_from}
use Rattle.lx_tnfa.proofs.Searching.SimplePaths.{SimplePathFrom}
use Rattle.lx_tnfa.proofs.Searching.SearchLaws.{IsAscending}
use Rattle.lx_tdfa.specs.Kernels.{Candidate, Entry, Key, candidates, candidates_at, candidates_by, first_entries, first_of_each, kernel_list, next_candidates, places, unless_seen}
use Rattle.lx_tdfa.proofs.Walks.Closures.{IsSearchList, search_from-list}
use Rattle.lx_tdfa.proofs.WordKernels.OrderedLists.{IsLesser, IsMember, IsRising, append_member_left, append_member_right, at_zero_nth, each_from, each_member, lesser_key_trans, lesser_self, member_append, nth_at_zero, nth_member, rising_append}
use Rattle.lx_tdfa.proofs.WordKernels.RunSteps.{AreApart, AreFirstRuns, AreFirstSegments, IsRun, IsSooner, first_runs_step}

pub sooner_trans : (a b c : Candidate) → IsSooner a b → IsSooner b c → IsSooner a c
sooner_trans a b c (inl l) (inl k) = inl (omega arith)
sooner_trans a b c (inl l) (inr k) = inl (omega (arith, k.0))
sooner_trans a b c (inr l) (inl k) = inl (omega (arith, l.0))
sooner_trans a b c (inr l) (inr k) = inr (l.0 ∙ k.0, lesser_key_trans a.key b.key c.key l.1 k.1)

-- the ways to read a unit at one state
candidates_at_back : (i : ℕ) (ws : List ℕ) (j : ℕ) (qs : List ℕ) (n : Candidate) → IsMember (candidates_at i ws j qs) n
    → (n.from ≡ i) × (n.key.way ≡ ws) × (d : ℕ) × (n.key.pick ≡ j + d) × IsNth qs d n.to
candidates_at_back i ws j [] n m = absurd m
candidates_at_back i ws j (q ∷ qs) n (inl e) =
    let z : j ≡ j + 0 = omega arith in
    (ap (λ (c : Candidate). c.from) (sym e), ap (λ (c : Candidate). c.key.way) (sym e), 0, ap (λ (c : Candidate). c.key.pick) (sym e) ∙ z, ap (λ (c : Candidate). c.to) e)
candidates_at_back i ws j (q ∷ qs) n (inr m) =
    let r = candidates_at_back i ws (suc j) qs n m in
    let z : suc j + r.2 ≡ j + suc r.2 = omega arith in
    (r.0, r.1, suc r.2, r.3 ∙ z, r.4)

candidates_at_has : (i : ℕ) (ws : List ℕ) (j : ℕ) (qs : List ℕ) (d q : ℕ) → IsNth qs d q
    → IsMember (candidates_at i ws j qs) (record { from = i; key = record { way = ws; pick = j + d }; to = q })
candidates_at_has i ws j [] d q h = absurd h
candidates_at_has i ws j (x ∷ qs) zero q h =
    let z : j ≡ j + 0 = omega arith in
    inl (ap₂ (λ a b. record { from = i; key = record { way = ws; pick = a }; to = b }) z h)
candidates_at_has i ws j (x ∷ qs) (suc d) q h =
    let z : suc j + d ≡ j + suc d = omega arith in
    inr (subst (λ k. IsMember (candidates_at i ws (suc j) qs) (record { from = i; key = record { way = ws; pick = k }; to = q })) z (candidates_at_has i ws (suc j) qs d q h))

candidates_at_rise : (i : ℕ) (ws : List ℕ) (j : ℕ) (qs : List ℕ) → IsRising IsSooner (candidates_at i ws j qs)
candidates_at_rise i ws j [] = tt
candidates_at_rise i ws j (q ∷ qs) = (
  each_from (IsSooner (record { from = i; key = record { way = ws; pick = j }; to = q })) (candidates_at i ws (suc j) qs) (λ n m. let r = candidates_at_back i ws (suc j) qs n m in inr (sym r.0, inr (sym r.1, omega (arith, r.3)))),
  candidates_at_rise i ws (suc j) qs,
)

-- all ways to read a unit, and where they come from
candidates_by_back : (cs qs : List ℕ) (n : Candidate) → IsMember (candidates_by cs qs) n → (cs ≡ n.from ∷ n.key.way) × IsNth qs n.key.pick n.to
candidates_by_back [] qs n m = absurd m
candidates_by_back (i ∷ ws) qs n m =
    let r = candidates_at_back i ws 0 qs n m in
    let z : 0 + r.2 ≡ r.2 = omega arith in
    (ap₂ (λ a b. a ∷ b) (sym r.0) (sym r.1), subst (λ k. IsNth qs k n.to) (sym (r.3 ∙ z)) r.4)

candidates_back : (r : ℕ → List ℕ) (es : List Found) (n : Candidate) → IsMember (candidates r es) n
    → (e : Found) × IsMember es e × (e.choices ≡ n.from ∷ n.key.way) × IsNth (r e.state) n.key.pick n.to
candidates_back r [] n m = absurd m
candidates_back r (e ∷ es) n m = go (λ a. candidates_back r es n a) (member_append (candidates_by e.choices (r e.state)) (candidates r es) n m)
  where
    go : (IsMember (candidates r es) n → (f : Found) × IsMember es f × (f.choices ≡ n.from ∷ n.key.way) × IsNth (r f.state) n.key.pick n.to)
        → IsMember (candidates_by e.choices (r e.state)) n ⊎ IsMember (candidates r es) n
        → (f : Found) × IsMember (e ∷ es) f × (f.choices ≡ n.from ∷ n.key.way) × IsNth (r f.state) n.key.pick n.to
    go h (inl a) = let b = candidates_by_back e.choices (r e.state) n a in (e, inl refl, b.0, b.1)
    go h (inr a) = let b = h a in (b.0, inr b.1, b.2, b.3)

candidates_by_has : (cs qs : List ℕ) (i : ℕ) (ws : List ℕ) (d q : ℕ) → cs ≡ i ∷ ws → IsNth qs d q
    → IsMember (candidates_by cs qs) (record { from = i; key = record { way = ws; pick = d }; to = q })
candidates_by_has cs qs i ws d q e h =
    let z : 0 + d ≡ d = omega arith in
    subst (λ k. IsMember (candidates_by k qs) (record { from = i; key = record { way = ws; pick = d }; to = q })) (sym e)
    (subst (λ k. IsMember (candidates_at i ws 0 qs) (record { from = i; key = record { way = ws; pick = k }; to = q })) z (candidates_at_has i ws 0 qs d q h))

candidates_has : (r : ℕ → List ℕ) (es : List Found) (e : Found) (i : ℕ) (ws : List ℕ) (d q : ℕ) → IsMember es e → e.choices ≡ i ∷ ws
    → IsNth (r e.state) d q → IsMember (candidates r es) (record { from = i; key = record { way = ws; pick = d }; to = q })
candidates_has r [] e i ws d q m c h = absurd m
candidates_has r (x ∷ es) e i ws d q (inl j) c h =
    append_member_left (candidates_by x.choices (r x.state)) (candidates r es) _
    (candidates_by_has x.choices (r x.state) i ws d q (ap (λ (f : Found). f.choices) j ∙ c) (subst (λ (f : Found). IsNth (r f.state) d q) (sym j) h))
candidates_has r (x ∷ es) e i ws d q (inr m) c h = append_member_right (candidates_by x.choices (r x.state)) (candidates r es) _ (candidates_has r es e i ws d q m c h)

before_sooner : (a b : Candidate) (x y : Found) → x.choices ≡ a.from ∷ a.key.way → y.choices ≡ b.from ∷ b.key.way
    → IsBefore x.choices y.choices → IsSooner a b
before_sooner a b x y e f h = go (subst (λ k. IsBefore k (b.from ∷ b.key.way)) e (subst (λ k. IsBefore x.choices k) f h))
  where
    go : (a.from < b.from) ⊎ ((a.from ≡ b.from) × IsBefore a.key.way b.key.way) → IsSooner a b
    go (inl l) = inl l
    go (inr l) = inr (l.0, inl l.1)

candidates_rise : (r : ℕ → List ℕ) (es : List Found) → IsAscending es → IsRising IsSooner (candidates r es)
candidates_rise r [] a = tt
candidates_rise r (e ∷ es) a =
    rising_append IsSooner (candidates_by e.choices (r e.state)) (candidates r es) (at e.choices (r e.state)) (candidates_rise r es a.1)
    (λ x y m k.
    let b = candidates_by_back e.choices (r e.state) x m in
    let c = candidates_back r es y k in
    before_sooner x y e c.0 b.0 c.2 (each_member (λ (f : Found). IsBefore e.choices f.choices) es c.0 a.0 c.1))
  where
    at : (cs qs : List ℕ) → IsRising IsSooner (candidates_by cs qs)
    at [] qs = tt
    at (i ∷ ws) qs = candidates_at_rise i ws 0 qs

-- the first candidates
first_of_each_sub : (seen : List ℕ) (ns : List Candidate) (n : Candidate) → IsMember (first_of_each seen ns) n → IsMember ns n
first_of_each_sub seen [] n m = m
first_of_each_sub seen (x ∷ ns) n m = go (decide_in seen x.to) (first_of_each_sub seen ns n) (first_of_each_sub (x.to ∷ seen) ns n) m
  where
    go : (d : Dec (IsIn seen x.to)) → (IsMember (first_of_each seen ns) n → IsMember ns n)
        → (IsMember (first_of_each (x.to ∷ seen) ns) n → IsMember ns n)
        → IsMember (unless_seen d (first_of_each seen ns) (x ∷ first_of_each (x.to ∷ seen) ns)) n → IsMember (x ∷ ns) n
    go (yes h) f states m = inr (f m)
    go (no h) f states (inl e) = inl e
    go (no h) f states (inr m) = inr (states m)

first_of_each_new : (seen : List ℕ) (ns : List Candidate) (n : Candidate) → IsMember (first_of_each seen ns) n → IsIn seen n.to → ⊥
first_of_each_new seen [] n m k = m
first_of_each_new seen (x ∷ ns) n m k = go (decide_in seen x.to) (first_of_each_new seen ns n) (first_of_each_new (x.to ∷ seen) ns n) m
  where
    go : (d : Dec (IsIn seen x.to)) → (IsMember (first_of_each seen ns) n → IsIn seen n.to → ⊥)
        → (IsMember (first_of_each (x.to ∷ seen) ns) n → IsIn (x.to ∷ seen) n.to → ⊥)
        → IsMember (unless_seen d (first_of_each seen ns) (x ∷ first_of_each (x.to ∷ seen) ns)) n → ⊥
    go (yes h) f states m = f m k
    go (no h) f states (inl e) = h (subst (λ (c : Candidate). IsIn seen c.to) (sym e) k)
    go (no h) f states (inr m) = states m (inr k)

first_of_each_rise : (seen : List ℕ) (ns : List Candidate) → IsRising IsSooner ns → IsRising IsSooner (first_of_each seen ns)
first_of_each_rise seen [] r = tt
first_of_each_rise seen (x ∷ ns) r = go (decide_in seen x.to) (first_of_each_rise seen ns r.1) (first_of_each_rise (x.to ∷ seen) ns r.1)
  where
    go : (d : Dec (IsIn seen x.to)) → IsRising IsSooner (first_of_each seen ns) → IsRising IsSooner (first_of_each (x.to ∷ seen) ns)
        → IsRising IsSooner (unless_seen d (first_of_each seen ns) (x ∷ first_of_each (x.to ∷ seen) ns))
    go (yes h) f states = f
    go (no h) f states = (each_from (IsSooner x) (first_of_each (x.to ∷ seen) ns) (λ n m. each_member (IsSooner x) ns n r.0 (first_of_each_sub (x.to ∷ seen) ns n m)), states)

first_of_each_once : (seen : List ℕ) (ns : List Candidate) → IsRising AreApart (first_of_each seen ns)
first_of_each_once seen [] = tt
first_of_each_once seen (x ∷ ns) = go (decide_in seen x.to) (first_of_each_once seen ns) (first_of_each_once (x.to ∷ seen) ns)
  where
    go : (d : Dec (IsIn seen x.to)) → IsRising AreApart (first_of_each seen ns) → IsRising AreApart (first_of_each (x.to ∷ seen) ns)
        → IsRising AreApart (unless_seen d (first_of_each seen ns) (x ∷ first_of_each (x.to ∷ seen) ns))
    go (yes h) f states = f
    go (no h) f states = (each_from (AreApart x) (first_of_each (x.to ∷ seen) ns) (λ n m e. first_of_each_new (x.to ∷ seen) ns n m (inl e)), states)

first_of_each_has : (seen : List ℕ) (ns : List Candidate) → IsRising IsSooner ns → (n : Candidate) → IsMember ns n
    → IsIn seen n.to ⊎ ((m : Candidate) × IsMember (first_of_each seen ns) m × (m.to ≡ n.to) × ((m ≡ n) ⊎ IsSooner m n))
first_of_each_has seen [] r n k = absurd k
first_of_each_has seen (x ∷ ns) r n (inl e) = go (decide_in seen x.to)
  where
    go : (d : Dec (IsIn seen x.to))
        → IsIn seen n.to ⊎ ((m : Candidate) × IsMember (unless_seen d (first_of_each seen ns) (x ∷ first_of_each (x.to ∷ seen) ns)) m × (m.to ≡ n.to) × ((m ≡ n) ⊎ IsSooner m n))
    go (yes h) = inl (subst (λ (c : Candidate). IsIn seen c.to) e h)
    go (no h) = inr (x, inl refl, ap (λ (c : Candidate). c.to) e, inl e)
first_of_each_has seen (x ∷ ns) r n (inr k) = go (decide_in seen x.to) (first_of_each_has seen ns r.1 n k) (first_of_each_has (x.to ∷ seen) ns r.1 n k)
  where
    go : (d : Dec (IsIn seen x.to))
        → IsIn seen n.to ⊎ ((m : Candidate) × IsMember (first_of_each seen ns) m × (m.to ≡ n.to) × ((m ≡ n) ⊎ IsSooner m n))
        → IsIn (x.to ∷ seen) n.to ⊎ ((m : Candidate) × IsMember (first_of_each (x.to ∷ seen) ns) m × (m.to ≡ n.to) × ((m ≡ n) ⊎ IsSooner m n))
        → IsIn seen n.to ⊎ ((m : Candidate) × IsMember (unless_seen d (first_of_each seen ns) (x ∷ first_of_each (x.to ∷ seen) ns)) m × (m.to ≡ n.to) × ((m ≡ n) ⊎ IsSooner m n))
    go (yes h) f states = f
    go (no h) f (inl (inl e)) = inr (x, inl refl, e, inr (each_member (IsSooner x) ns n r.0 k))
    go (no h) f (inl (inr m)) = inl m
    go (no h) f (inr q) = inr (q.0, inr q.1, q.2, q.3)

module _ (graph : List (List ℕ)) (after : ℕ → ℕ → List ℕ) (said : ℕ → ℕ → Key → List Symbol) (starts : List ℕ) where
  pub next_candidates-first : (ps : List ℕ) (u : ℕ) → AreFirstSegments graph after said starts ps u (next_candidates graph after said starts ps u)
  next_candidates-first ps u = of (search_from graph [] ps) (search_from-list graph ps)
    where
      of : (es : List Found) → IsSearchList graph ps es
          → AreFirstSegments graph after said starts ps u (first_of_each [] (candidates (λ t. after t u) es))
      of es C = record {
        sound = λ n m.
            let b = candidates_back (λ t. after t u) es n (first_of_each_sub [] (candidates (λ t. after t u) es) n m) in
            let c : SimplePathFrom graph [] 0 ps (n.from ∷ n.key.way) b.0.state = subst (λ k. SimplePathFrom graph [] 0 ps k b.0.state) b.2 (C.sound b.0 b.1) in
            (c.0, at_zero_nth ps n.from c.0 c.1, (b.0.state, c.2, b.3));
        complete = λ n p at s. found n p s.0 s.2 (C.complete (n.from ∷ n.key.way) s.0 (p, nth_at_zero ps n.from p at, s.1));
        order = first_of_each_rise [] (candidates (λ t. after t u) es) rise;
        once = first_of_each_once [] (candidates (λ t. after t u) es);
      }
        where
          rise : IsRising IsSooner (candidates (λ t. after t u) es)
          rise = candidates_rise (λ t. after t u) es C.order

          found : (n : Candidate) (p t : ℕ) → IsNth (after t u) n.key.pick n.to
              → (e : Found) × IsMember es e × (e.state ≡ t) × (IsBefore (n.from ∷ n.key.way) e.choices → ⊥)
              → (m : Candidate) × IsMember (first_of_each [] (candidates (λ t. after t u) es)) m × (m.to ≡ n.to) × (IsSooner n m → ⊥)
          found n p t h f = by f.0.choices refl
            where
              by : (cs : List ℕ) → f.0.choices ≡ cs
                  → (m : Candidate) × IsMember (first_of_each [] (candidates (λ t. after t u) es)) m × (m.to ≡ n.to) × (IsSooner n m → ⊥)
              by [] e = absurd (subst (λ k. SimplePathFrom graph [] 0 ps k f.0.state) e (C.sound f.0 f.1))
              by (i ∷ ws) e = kept (first_of_each_has [] (candidates (λ t. after t u) es) rise o (candidates_has (λ t. after t u) es f.0 i ws n.key.pick n.to f.1 e (subst (λ k. IsNth (after k u) n.key.pick n.to) (sym f.2) h)))
                where
                  o : Candidate
                  o = record { from = i; key = record { way = ws; pick = n.key.pick }; to = n.to }

                  least : IsSooner n o → ⊥
                  least (inl l) = f.3 (subst (λ k. IsBefore (n.from ∷ n.key.way) k) (sym e) (inl l))
                  least (inr (j, inl b)) = f.3 (subst (λ k. IsBefore (n.from ∷ n.key.way) k) (sym e) (inr (j, b)))
                  least (inr (j, inr b)) = omega (arith, b.1)

                  kept : IsIn [] n.to ⊎ ((m : Candidate) × IsMember (first_of_each [] (candidates (λ t. after t u) es)) m × (m.to ≡ n.to) × ((m ≡ o) ⊎ IsSooner m o))
                      → (m : Candidate) × IsMember (first_of_each [] (candidates (λ t. after t u) es)) m × (m.to ≡ n.to) × (IsSooner n m → ⊥)
                  kept (inl x) = absurd x
                  kept (inr q) = (q.0, q.1, q.2, λ s. not q.3 s)
                    where
                      not : (q.0 ≡ o) ⊎ IsSooner q.0 o → IsSooner n q.0 → ⊥
                      not (inl e) s = least (subst (IsSooner n) e s)
                      not (inr b) s = least (sooner_trans n q.0 o s b)

  first_entries_back : (i : ℕ) (qs : List ℕ) (e : Entry) → IsMember (first_entries i qs) e
      → (d : ℕ) × IsNth qs d e.place × (e.keys ≡ record { way = []; pick = i + d } ∷ []) × (e.front ≡ [])
  first_entries_back i [] e m = absurd m
  first_entries_back i (q ∷ qs) e (inl h) =
      let z : i ≡ i + 0 = omega arith in
      (0, ap (λ (x : Entry). x.place) h, sym (ap (λ (x : Entry). x.keys) h) ∙ ap (λ n. record { way = []; pick = n } ∷ []) z, sym (ap (λ (x : Entry). x.front) h))
  first_entries_back i (q ∷ qs) e (inr m) =
      let r = first_entries_back (suc i) qs e m in
      let z : suc i + r.0 ≡ i + suc r.0 = omega arith in
      (suc r.0, r.1, r.2 ∙ ap (λ n. record { way = []; pick = n } ∷ []) z, r.3)

  first_entries_has : (i : ℕ) (qs : List ℕ) (d q : ℕ) → IsNth qs d q
      → IsMember (first_entries i qs) (record { place = q; keys = record { way = []; pick = i + d } ∷ []; front = [] })
  first_entries_has i [] d q h = absurd h
  first_entries_has i (x ∷ qs) zero q h =
      let z : i ≡ i + 0 = omega arith in
      inl (ap₂ (λ a n. record { place = a; keys = record { way = []; pick = n } ∷ []; front = [] }) h z)
  first_entries_has i (x ∷ qs) (suc d) q h =
      let z : suc i + d ≡ i + suc d = omega arith in
      inr (subst (λ n. IsMember (first_entries (suc i) qs) (record { place = q; keys = record { way = []; pick = n } ∷ []; front = [] })) z (first_entries_has (suc i) qs d q h))

  first_entries_rise : (i : ℕ) (qs : List ℕ) → IsRising (λ (e f : Entry). IsLesser e.keys f.keys) (first_entries i qs)
  first_entries_rise i [] = tt
  first_entries_rise i (q ∷ qs) = (
    each_from (λ (f : Entry). IsLesser (record { way = []; pick = i } ∷ []) f.keys) (first_entries (suc i) qs)
        (λ f m. let r = first_entries_back (suc i) qs f m in subst (λ ks. IsLesser (record { way = []; pick = i } ∷ []) ks) (sym r.2) (inr (refl, inr (refl, omega arith)))),
    first_entries_rise (suc i) qs,
  )

  first_entries_once : (i : ℕ) (qs : List ℕ) → IsRising (λ a b. a ≡ b → ⊥) qs → IsRising (λ (e f : Entry). e.place ≡ f.place → ⊥) (first_entries i qs)
  first_entries_once i [] h = tt
  first_entries_once i (q ∷ qs) h = (
    each_from (λ (f : Entry). q ≡ f.place → ⊥) (first_entries (suc i) qs) (λ f m. let r = first_entries_back (suc i) qs f m in each_member (λ b. q ≡ b → ⊥) qs f.place h.0 (nth_member qs r.0 f.place r.1)),
    first_entries_once (suc i) qs h.1,
  )

  -- the list of a word has the first run to each place, in the order of the runs
  pub kernel_list-first_runs : IsRising (λ a b. a ≡ b → ⊥) starts → (w : List ℕ)
      → AreFirstRuns graph after said starts w (kernel_list graph after said starts w)
  kernel_list-first_runs apart [] = record {
    sound = λ e m.
        let r = first_entries_back 0 starts e m in
        let z : 0 + r.0 ≡ r.0 = omega arith in
        subst (λ ks. IsRun graph after said starts [] ks e.front e.place) (sym (r.2 ∙ ap (λ n. record { way = []; pick = n } ∷ []) z)) (refl, refl, r.1, r.3);
    complete = λ ks F q r. all ks F q r;
    order = first_entries_rise 0 starts;
    once = first_entries_once 0 starts apart;
  }
    where
      all : (ks : List Key) (F : List Symbol) (q : ℕ) → IsRun graph after said starts [] ks F q
          → (e : Entry) × IsMember (first_entries 0 starts) e × (e.place ≡ q) × (IsLesser ks e.keys → ⊥)
      all [] F q r = absurd r
      all (k ∷ ks) F q r =
          let z : 0 + k.pick ≡ k.pick = omega arith in
          let e : record { way = []; pick = k.pick } ∷ [] ≡ k ∷ ks = ap₂ (λ a b. record { way = a; pick = k.pick } ∷ b) (sym r.1) (sym r.0) in
          (record { place = q; keys = record { way = []; pick = k.pick } ∷ []; front = [] }, subst (λ n. IsMember (first_entries 0 starts) (record { place = q; keys = record { way = []; pick = n } ∷ []; front = [] })) z (first_entries_has 0 starts k.pick q r.2), refl, λ l. lesser_self (k ∷ ks) (subst (λ ls. IsLesser (k ∷ ks) ls) e l))
  kernel_list-first_runs apart (u ∷ w) = first_runs_step graph after said starts w u (kernel_list graph after said starts w) (next_candidates graph after said starts (places (kernel_list graph after said starts w)) u) (kernel_list-first_runs apart w) (next_candidates-first (places (kernel_list graph after said starts w)) u)
