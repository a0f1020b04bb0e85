-- Runs over words, from place to place, and what one step adds to the first of them.
use Rattle.std.proofs.Common.{inl, inr, sym, ap, ◌∙◌, subst, arith}
use Rattle.std.specs.Prelude.{◌≡◌, ℕ, zero, suc, ◌<◌, ◌⊎◌, List, [], ◌∷◌, ◌++◌, refl}
use Rattle.lx_regex.specs.Script.{Symbol}
use Rattle.lx_tnfa.specs.LeafReadings.{IsNth}
use Rattle.lx_tnfa.proofs.Searching.SimplePaths.{SimplePath}
use Rattle.lx_tnfa.proofs.Construction.NthLists.{nth_map, nth_unmap}
use Rattle.lx_tnfa.proofs.Searching.SearchUnique.{three_cases}
use Rattle.lx_tdfa.specs.Kernels.{Candidate, Entry, Key, entries, entry_at, entry_of, keys_at, places}
use Rattle.lx_tdfa.proofs.WordKernels.OrderedLists.{IsLesser, IsLesserKey, IsMember, IsRising, each_from, each_member, lesser_trans, member_nth, nth_member, rising_nth}

-- a segment comes before another: from an earlier place, or from the same with a lesser key
abbrev pub IsSooner : Candidate → Candidate → Type 0
IsSooner a b = (a.from < b.from) ⊎ ((a.from ≡ b.from) × IsLesserKey a.key b.key)

-- they lead to different places
abbrev pub AreApart : Candidate → Candidate → Type 0
AreApart a b = a.to ≡ b.to → ⊥

-- `graph` has the moves in order, `after` the places after a state or place and a unit, in order, `said` the symbols of a segment
-- from a place over a unit, and runs begin at `starts`
module _ (graph : List (List ℕ)) (after : ℕ → ℕ → List ℕ) (said : ℕ → ℕ → Key → List Symbol) (starts : List ℕ) where
  -- from a place over a unit to a place: by moves that visit no state twice to a state that reads the unit
  abbrev pub IsSegment : ℕ → ℕ → Key → ℕ → Type 0
  IsSegment p u k q = (t : ℕ) × SimplePath graph [] p k.way t × IsNth (after t u) k.pick q

  -- a run over a word, which is given with its last unit first, and its symbols
  abbrev pub IsRun : List ℕ → List Key → List Symbol → ℕ → Type 0
  IsRun [] [] F q = ⊥
  IsRun [] (k ∷ ks) F q = (ks ≡ []) × (k.way ≡ []) × IsNth starts k.pick q × (F ≡ [])
  IsRun (u ∷ w) [] F q = ⊥
  IsRun (u ∷ w) (k ∷ ks) F q = (p : ℕ) × (E : List Symbol) × IsRun w ks E p × (F ≡ E ++ said p u k) × IsSegment p u k q

  -- each place at which a run over the word ends, once, with the first run there, in the order of the runs
  pub record AreFirstRuns (w : List ℕ) (es : List Entry) : Type 0 where
    pub sound : (e : Entry) → IsMember es e → IsRun w e.keys e.front e.place
    pub complete : (ks : List Key) (F : List Symbol) (q : ℕ) → IsRun w ks F q → (e : Entry) × IsMember es e × (e.place ≡ q) × (IsLesser ks e.keys → ⊥)
    pub order : IsRising (λ e f. IsLesser e.keys f.keys) es
    pub once : IsRising (λ e f. e.place ≡ f.place → ⊥) es

  -- the segments over a unit from some places: to each place the first, in their order
  pub record AreFirstSegments (ps : List ℕ) (u : ℕ) (ns : List Candidate) : Type 0 where
    pub sound : (n : Candidate) → IsMember ns n → (p : ℕ) × IsNth ps n.from p × IsSegment p u n.key n.to
    pub complete : (n : Candidate) (p : ℕ) → IsNth ps n.from p → IsSegment p u n.key n.to
        → (m : Candidate) × IsMember ns m × (m.to ≡ n.to) × (IsSooner n m → ⊥)
    pub order : IsRising IsSooner ns
    pub once : IsRising AreApart ns

  pub entry_is : (es : List Entry) (i : ℕ) (e : Entry) → IsNth es i e → entry_at es i ≡ e
  entry_is [] i e h = absurd h
  entry_is (x ∷ es) zero e h = h
  entry_is (x ∷ es) (suc i) e h = entry_is es i e h

  keys_are : (es : List Entry) (i : ℕ) (e : Entry) → IsNth es i e → keys_at es i ≡ e.keys
  keys_are es i e h = ap (λ (y : Entry). y.keys) (entry_is es i e h)

  entries_back : (es : List Entry) (u : ℕ) (ns : List Candidate) (e : Entry) → IsMember (entries graph after said starts es u ns) e
      → (n : Candidate) × IsMember ns n × (entry_of graph after said starts es u n ≡ e)
  entries_back es u [] e m = absurd m
  entries_back es u (n ∷ ns) e (inl h) = (n, inl refl, h)
  entries_back es u (n ∷ ns) e (inr m) = let r = entries_back es u ns e m in (r.0, inr r.1, r.2)

  entries_has : (es : List Entry) (u : ℕ) (ns : List Candidate) (n : Candidate) → IsMember ns n
      → IsMember (entries graph after said starts es u ns) (entry_of graph after said starts es u n)
  entries_has es u [] n m = absurd m
  entries_has es u (x ∷ ns) n (inl h) = inl (ap (entry_of graph after said starts es u) h)
  entries_has es u (x ∷ ns) n (inr m) = inr (entries_has es u ns n m)

  entries_rise : (es : List Entry) (u : ℕ) (L : Candidate → Candidate → Type 0) (M : Entry → Entry → Type 0) (ns : List Candidate)
      → ((a b : Candidate) → IsMember ns a → IsMember ns b → L a b → M (entry_of graph after said starts es u a) (entry_of graph after said starts es u b))
      → IsRising L ns → IsRising M (entries graph after said starts es u ns)
  entries_rise es u L M [] f r = tt
  entries_rise es u L M (n ∷ ns) f r = (
    each_from (M (entry_of graph after said starts es u n)) (entries graph after said starts es u ns) (λ e m. let b = entries_back es u ns e m in subst (M (entry_of graph after said starts es u n)) b.2 (f n b.0 (inl refl) (inr b.1) (each_member (L n) ns b.0 r.0 b.1))),
    entries_rise es u L M ns (λ a b m k l. f a b (inr m) (inr k) l) r.1,
  )

  -- one step from the first runs over a word gives those over the word with a unit more
  pub first_runs_step : (w : List ℕ) (u : ℕ) (es : List Entry) (ns : List Candidate) → AreFirstRuns w es → AreFirstSegments (places es) u ns
      → AreFirstRuns (u ∷ w) (entries graph after said starts es u ns)
  first_runs_step w u es ns K numbers = record {
    sound = λ e m. let b = entries_back es u ns e m in subst (λ (x : Entry). IsRun (u ∷ w) x.keys x.front x.place) b.2 (sound b.0 b.1);
    complete = complete;
    order = entries_rise es u IsSooner (λ e f. IsLesser e.keys f.keys) ns rise numbers.order;
    once = entries_rise es u AreApart (λ e f. e.place ≡ f.place → ⊥) ns (λ a b m k l. l) numbers.once;
  }
    where
      -- the entry from which a candidate comes
      origin : (n : Candidate) → IsMember ns n → (e : Entry) × IsNth es n.from e × IsSegment e.place u n.key n.to
      origin n m =
          let s = numbers.sound n m in
          let o = nth_unmap (λ (e : Entry). e.place) es n.from s.0 s.1 in
          (o.0, o.1, subst (λ p. IsSegment p u n.key n.to) (sym o.2) s.2)

      sound : (n : Candidate) → IsMember ns n
          → IsRun (u ∷ w) (entry_of graph after said starts es u n).keys (entry_of graph after said starts es u n).front n.to
      sound n m =
          let o = origin n m in
          let e : o.0 ≡ entry_at es n.from = sym (entry_is es n.from o.0 o.1) in
          let r : IsRun w (entry_at es n.from).keys (entry_at es n.from).front (entry_at es n.from).place = subst (λ (x : Entry). IsRun w x.keys x.front x.place) e (K.sound o.0 (nth_member es n.from o.0 o.1)) in
          ((entry_at es n.from).place, (entry_at es n.from).front, r, refl, subst (λ (x : Entry). IsSegment x.place u n.key n.to) e o.2)

      rise : (a b : Candidate) → IsMember ns a → IsMember ns b → IsSooner a b → IsLesser (a.key ∷ keys_at es a.from) (b.key ∷ keys_at es b.from)
      rise a b m k (inl l) =
          let x = origin a m in
          let y = origin b k in
          let h : IsLesser x.0.keys y.0.keys = rising_nth (λ (e f : Entry). IsLesser e.keys f.keys) es a.from b.from x.0 y.0 K.order x.1 y.1 l in
          inl (subst (λ ks. IsLesser ks (keys_at es b.from)) (sym (keys_are es a.from x.0 x.1)) (subst (λ ks. IsLesser x.0.keys ks) (sym (keys_are es b.from y.0 y.1)) h))
      rise a b m k (inr l) = inr (ap (keys_at es) l.0, l.1)

      complete : (ks : List Key) (F : List Symbol) (q : ℕ) → IsRun (u ∷ w) ks F q
          → (e : Entry) × IsMember (entries graph after said starts es u ns) e × (e.place ≡ q) × (IsLesser ks e.keys → ⊥)
      complete [] F q r = absurd r
      complete (k ∷ ks) F q r =
          let c = K.complete ks r.1 r.0 r.2 in
          let e = c.0 in
          let i = member_nth es e c.1 in
          let n : Candidate = record { from = i.0; key = k; to = q } in
          let at : IsNth (places es) i.0 e.place = nth_map (λ (x : Entry). x.place) es i.0 e i.1 in
          let d = numbers.complete n e.place at (subst (λ p. IsSegment p u k q) (sym c.2) r.4) in
          (entry_of graph after said starts es u d.0, entries_has es u ns d.0 d.1, d.2, first e i.0 i.1 n refl d.0 d.1 d.3 ks c.3)
        where
          first : (e : Entry) (i : ℕ) → IsNth es i e → (n : Candidate) → n.from ≡ i → (m : Candidate) → IsMember ns m → (IsSooner n m → ⊥)
              → (ks : List Key) → (IsLesser ks e.keys → ⊥) → IsLesser (n.key ∷ ks) (m.key ∷ keys_at es m.from) → ⊥
          first e i at n ni m mm never ks least l = go (three_cases i m.from) l
            where
              o : (f : Entry) × IsNth es m.from f × IsSegment f.place u m.key m.to
              o = origin m mm

              same : i ≡ m.from → keys_at es m.from ≡ e.keys
              same j = ap (keys_at es) (sym j) ∙ keys_are es i e at

              sooner : m.from < i → IsLesser (keys_at es m.from) e.keys
              sooner l = subst (λ ls. IsLesser ls e.keys) (sym (keys_are es m.from o.0 o.1)) (rising_nth (λ (x y : Entry). IsLesser x.keys y.keys) es m.from i o.0 e K.order o.1 at l)

              go : (i < m.from) ⊎ ((i ≡ m.from) ⊎ (m.from < i))
                  → IsLesser ks (keys_at es m.from) ⊎ ((ks ≡ keys_at es m.from) × IsLesserKey n.key m.key) → ⊥
              go (inl a) l = never (inl (omega (arith, ni, a)))
              go (inr (inl j)) (inl b) = least (subst (λ ls. IsLesser ks ls) (same j) b)
              go (inr (inl j)) (inr b) = never (inr (ni ∙ j, b.1))
              go (inr (inr a)) (inl b) = least (lesser_trans ks (keys_at es m.from) e.keys b (sooner a))
              go (inr (inr a)) (inr b) = least (subst (λ ls. IsLesser ls e.keys) (sym b.0) (sooner a))
