-- The first final state that is found from the places of a kernel is where the least run to an end leads.
use Rattle.std.proofs.Common.{inl, inr, sym, ap, subst}
use Rattle.std.specs.Prelude.{◌≡◌, ℕ, ◌<◌, ◌⊎◌, List, [], ◌∷◌, Option, Some, None, refl}
use Rattle.lx_regex.specs.Dictionary.{IsBefore}
use Rattle.lx_regex.specs.Script.{Symbol}
use Rattle.lx_tnfa.specs.LeafReadings.{IsNth}
use Rattle.lx_tnfa.specs.DepthFirst.{Found, IsIn, decide_in, search_from}
use Rattle.lx_tnfa.proofs.Searching.SimplePaths.{SimplePath, SimplePathFrom}
use Rattle.lx_tnfa.proofs.Construction.NthLists.{nth_map, nth_unmap}
use Rattle.lx_tnfa.proofs.Searching.SearchLaws.{IsAscending}
use Rattle.lx_tnfa.proofs.Searching.SearchUnique.{IsBefore-trans, three_cases}
use Rattle.lx_tdfa.specs.Accepts.{first_end, first_final, if_final}
use Rattle.lx_tdfa.specs.Kernels.{Entry, Key, places}
use Rattle.lx_tdfa.proofs.Walks.Closures.{IsSearchList, search_from-list}
use Rattle.lx_tdfa.proofs.WordKernels.OrderedLists.{IsLesser, IsMember, at_zero_nth, each_member, lesser_trans, member_nth, nth_at_zero, nth_member, nth_same, rising_nth}
use Rattle.lx_tdfa.proofs.WordKernels.RunSteps.{AreFirstRuns, IsRun}

-- what first_final gives
data IsFirstFinal (finals : List ℕ) (es : List Found) : Option Found → Type 0 where
  nowhere : ((e : Found) → IsMember es e → IsIn finals e.state → ⊥) → IsFirstFinal finals es None
  at : (e : Found) → IsMember es e → IsIn finals e.state
      → ((f : Found) → IsMember es f → IsIn finals f.state → (f ≡ e) ⊎ IsBefore e.choices f.choices) → IsFirstFinal finals es (Some e)

first_final_behind : (finals : List ℕ) (x : Found) (es : List Found) (o : Option Found) → (IsIn finals x.state → ⊥)
    → IsFirstFinal finals es o → IsFirstFinal finals (x ∷ es) o
first_final_behind finals x es o n (nowhere f) = nowhere (λ e m k. go f e m k)
  where
    go : ((e : Found) → IsMember es e → IsIn finals e.state → ⊥) → (e : Found) → IsMember (x ∷ es) e → IsIn finals e.state → ⊥
    go f e (inl h) k = n (subst (λ (y : Found). IsIn finals y.state) (sym h) k)
    go f e (inr m) k = f e m k
first_final_behind finals x es o n (at e m k f) = at e (inr m) k (λ g j i. go g j i)
  where
    go : (g : Found) → IsMember (x ∷ es) g → IsIn finals g.state → (g ≡ e) ⊎ IsBefore e.choices g.choices
    go g (inl h) i = absurd (n (subst (λ (y : Found). IsIn finals y.state) (sym h) i))
    go g (inr j) i = f g j i

first_final-is : (finals : List ℕ) (es : List Found) → IsAscending es → IsFirstFinal finals es (first_final finals es)
first_final-is finals [] a = nowhere (λ e m k. m)
first_final-is finals (x ∷ es) a = go (decide_in finals x.state) (first_final-is finals es a.1)
  where
    other : (f : Found) → IsMember (x ∷ es) f → (f ≡ x) ⊎ IsBefore x.choices f.choices
    other f (inl h) = inl (sym h)
    other f (inr m) = inr (each_member (λ (f : Found). IsBefore x.choices f.choices) es f a.0 m)

    go : (d : Dec (IsIn finals x.state)) → IsFirstFinal finals es (first_final finals es)
        → IsFirstFinal finals (x ∷ es) (if_final d (Some x) (first_final finals es))
    go (yes h) r = at x (inl refl) h (λ f m k. other f m)
    go (no h) r = first_final_behind finals x es (first_final finals es) h r

module _ (graph : List (List ℕ)) (after : ℕ → ℕ → List ℕ) (said : ℕ → ℕ → Key → List Symbol) (starts finals : List ℕ) where
  -- no whole run over the word comes before one with these keys
  abbrev pub IsFirstRun : List ℕ → List Key → List ℕ → Type 0
  IsFirstRun w ks ws = (js : List Key) (E : List Symbol) (p : ℕ) (vs : List ℕ) (t : ℕ) → IsRun graph after said starts w js E p → SimplePath graph [] p vs t → IsIn finals t → IsLesser js ks ⊎ ((js ≡ ks) × IsBefore vs ws) → ⊥

  -- what is accepted: nothing where no run over the word goes on to a final state, else the first such run
  pub data IsFirstEnd (w : List ℕ) (es : List Entry) : Option Found → Type 0 where
    refuses : ((ks : List Key) (F : List Symbol) (p : ℕ) (ws : List ℕ) (t : ℕ) → IsRun graph after said starts w ks F p → SimplePath graph [] p ws t → IsIn finals t → ⊥)
        → IsFirstEnd w es None
    accepts : (e : Found) (i : ℕ) (ws : List ℕ) (f : Entry) → e.choices ≡ i ∷ ws → IsNth es i f
        → IsRun graph after said starts w f.keys f.front f.place → SimplePath graph [] f.place ws e.state → IsIn finals e.state
        → IsFirstRun w f.keys ws → IsFirstEnd w es (Some e)

  pub first_end-is : (w : List ℕ) (es : List Entry) → AreFirstRuns graph after said starts w es → IsFirstEnd w es (first_end graph finals es)
  first_end-is w es K = of (search_from graph [] ps) (search_from-list graph ps) (first_final finals (search_from graph [] ps)) (first_final-is finals (search_from graph [] ps) ((search_from-list graph ps).order))
    where
      ps : List ℕ
      ps = places es

      of : (xs : List Found) → IsSearchList graph ps xs → (o : Option Found) → IsFirstFinal finals xs o → IsFirstEnd w es o
      of xs C o (nowhere f) = refuses (λ ks F p ws t r s m.
          let k = K.complete ks F p r in
          let i = member_nth es k.0 k.1 in
          let c = C.complete (i.0 ∷ ws) t (k.0.place, nth_at_zero ps i.0 k.0.place (nth_map (λ (x : Entry). x.place) es i.0 k.0 i.1), subst (λ q. SimplePath graph [] q ws t) (sym k.2) s) in
          f c.0 c.1 (subst (λ x. IsIn finals x) (sym c.2) m))
      of xs C o (at e m h f) = by e.choices refl
        where
          by : (cs : List ℕ) → e.choices ≡ cs → IsFirstEnd w es (Some e)
          by [] q = absurd (subst (λ k. SimplePathFrom graph [] 0 ps k e.state) q (C.sound e m))
          by (i ∷ ws) q =
              let c : SimplePathFrom graph [] 0 ps (i ∷ ws) e.state = subst (λ k. SimplePathFrom graph [] 0 ps k e.state) q (C.sound e m) in
              let o = nth_unmap (λ (x : Entry). x.place) es i c.0 (at_zero_nth ps i c.0 c.1) in
              accepts e i ws o.0 q o.1 (K.sound o.0 (nth_member es i o.0 o.1)) (subst (λ p. SimplePath graph [] p ws e.state) (sym o.2) c.2) h (first o.0 o.1)
            where
              first : (x : Entry) → IsNth es i x → IsFirstRun w x.keys ws
              first x here js E p vs t r s n l = go (three_cases j.0 i) l
                where
                  k : (y : Entry) × IsMember es y × (y.place ≡ p) × (IsLesser js y.keys → ⊥)
                  k = K.complete js E p r

                  j : (d : ℕ) × IsNth es d k.0
                  j = member_nth es k.0 k.1

                  c : (g : Found) × IsMember xs g × (g.state ≡ t) × (IsBefore (j.0 ∷ vs) g.choices → ⊥)
                  c = C.complete (j.0 ∷ vs) t (k.0.place, nth_at_zero ps j.0 k.0.place (nth_map (λ (y : Entry). y.place) es j.0 k.0 j.1), subst (λ y. SimplePath graph [] y vs t) (sym k.2) s)

                  never : IsBefore (j.0 ∷ vs) (i ∷ ws) → ⊥
                  never b = which (f c.0 c.1 (subst (λ y. IsIn finals y) (sym c.2) n))
                    where
                      b' : IsBefore (j.0 ∷ vs) e.choices
                      b' = subst (λ y. IsBefore (j.0 ∷ vs) y) (sym q) b

                      which : (c.0 ≡ e) ⊎ IsBefore e.choices c.0.choices → ⊥
                      which (inl h) = c.3 (subst (λ (y : Found). IsBefore (j.0 ∷ vs) y.choices) (sym h) b')
                      which (inr h) = c.3 (IsBefore-trans (j.0 ∷ vs) e.choices c.0.choices b' h)

                  same : j.0 ≡ i → k.0.keys ≡ x.keys
                  same e' = ap (λ (y : Entry). y.keys) (nth_same es i k.0 x (subst (λ d. IsNth es d k.0) e' j.1) here)

                  go : (j.0 < i) ⊎ ((j.0 ≡ i) ⊎ (i < j.0)) → IsLesser js x.keys ⊎ ((js ≡ x.keys) × IsBefore vs ws) → ⊥
                  go (inl a) z = never (inl a)
                  go (inr (inl a)) (inl z) = k.3 (subst (λ ls. IsLesser js ls) (sym (same a)) z)
                  go (inr (inl a)) (inr z) = never (inr (a, z.1))
                  go (inr (inr a)) (inl z) = k.3 (lesser_trans js x.keys k.0.keys z (rising_nth (λ (y z : Entry). IsLesser y.keys z.keys) es i j.0 x k.0 K.order here j.1 a))
                  go (inr (inr a)) (inr z) = k.3 (subst (λ ls. IsLesser ls k.0.keys) (sym z.0) (rising_nth (λ (y z : Entry). IsLesser y.keys z.keys) es i j.0 x k.0 K.order here j.1 a))
