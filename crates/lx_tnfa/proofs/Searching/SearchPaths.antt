-- The laws of the search_at, for callers: in std's words, with a path's list of visited states.
use Rattle.std.specs.Prelude.{◌≡◌, ℕ, zero, suc, ◌+◌, ◌<◌, List, [], ◌∷◌, refl, length, get_or, All, AllPairs, Contains, map}
use Rattle.std.proofs.Common.{inl, inr, sym, ◌∙◌, subst, arith}
use Rattle.std.proofs.lemmas.List.Kept.{AllPairs-cons}
use Rattle.lx_regex.specs.Dictionary.{IsBefore}
use Rattle.lx_tnfa.specs.DepthFirst.{IsIn, decide_in, successors, Found, visited, search_within, search_each_within}
use Rattle.lx_tnfa.proofs.Searching.SimplePaths.{IsAt, SimplePath, SimplePathFrom, unvisited}
use Rattle.lx_tnfa.proofs.Searching.SearchBasics.{Each, Each-weaker, IsClosed, IsClosed-self}
use Rattle.lx_tnfa.proofs.Searching.SearchLaws.{AreBySimplePathsFrom, AreFresh, IsLeastFrom, IsAscending, Covers, search_each-simple, search_each-fresh, search_each-complete, search_each-least, search_each-ascending, search_within-simple, search_within-fresh, search_within-complete, search_within-least, search_within-ascending}

-- a path from s to t, by the choices ws, which visits the states ss
abbrev pub Path : List (List ℕ) → ℕ → List ℕ → List ℕ → ℕ → Type 0
Path graph s ws [] t = ⊥
Path graph s [] (u ∷ ss) t = (u ≡ s) × (ss ≡ []) × (s ≡ t)
Path graph s (w ∷ ws) (u ∷ ss) t = (u ≡ s) × ((c : ℕ) × (w < length (successors graph s)) × (get_or (successors graph s) w c ≡ c) × Path graph c ws ss t)

-- a path from one of the starts: its index, then the choices
abbrev pub PathFrom : List (List ℕ) → List ℕ → List ℕ → List ℕ → ℕ → Type 0
PathFrom graph starts [] ss t = ⊥
PathFrom graph starts (i ∷ ws) ss t = (s : ℕ) × (i < length starts) × (get_or starts i s ≡ s) × Path graph s ws ss t

abbrev pub Avoids : List ℕ → List ℕ → Type 0
Avoids avoided ss = All (λ x. Contains avoided x → ⊥) ss

abbrev pub IsSimple : List ℕ → Type 0
IsSimple ss = AllPairs (λ x y. x ≡ y → ⊥) ss

-- between std's words and the recursive ones

pub Contains-from_in : (avoided : List ℕ) (x : ℕ) → IsIn avoided x → Contains avoided x
Contains-from_in [] x m = absurd m
Contains-from_in (y ∷ avoided) x (inl e) = (0, omega arith, e)
Contains-from_in (y ∷ avoided) x (inr m) = let r : Contains avoided x = Contains-from_in avoided x m in (suc r.0, omega (arith, r.1), r.2)

pub IsIn-from_contains : (avoided : List ℕ) (x : ℕ) → Contains avoided x → IsIn avoided x
IsIn-from_contains [] x r = absurd (omega (arith, r.1))
IsIn-from_contains (y ∷ avoided) x r = go r.0 r.1 r.2 (IsIn-from_contains avoided x)
  where
    go : (k : ℕ) → k < length (y ∷ avoided) → get_or (y ∷ avoided) k x ≡ x → (Contains avoided x → IsIn avoided x) → IsIn (y ∷ avoided) x
    go zero l e f = inl e
    go (suc k) l e f = inr (f (k, omega arith, e))

pub Each-from_all : {X : Type 0} (P : X → Type 0) (xs : List X) → All P xs → Each P xs
Each-from_all P [] h = tt
Each-from_all P (x ∷ xs) h = (h 0 x (omega arith), Each-from_all P xs (λ k d l. h (suc k) d (omega arith)))

pub All-from_each : {X : Type 0} (P : X → Type 0) (xs : List X) → Each P xs → All P xs
All-from_each P [] h k d l = absurd (omega arith)
All-from_each P (x ∷ xs) h zero d l = h.0
All-from_each P (x ∷ xs) h (suc k) d l = All-from_each P xs h.1 k d (omega arith)

pub IsAt-from_index : (cs : List ℕ) (i w c : ℕ) → w < length cs → get_or cs w c ≡ c → IsAt i cs (i + w) c
IsAt-from_index [] i w c l e = absurd (omega arith)
IsAt-from_index (x ∷ cs) i zero c l e = inl (omega arith, e)
IsAt-from_index (x ∷ cs) i (suc w) c l e =
    inr (subst (λ k. IsAt (suc i) cs k c) (let q : suc i + w ≡ i + suc w = omega arith in q) (IsAt-from_index cs (suc i) w c (omega arith) e))

pub IsAt-index : (cs : List ℕ) (i w c : ℕ) → IsAt i cs w c → (k : ℕ) × (w ≡ i + k) × (k < length cs) × (get_or cs k c ≡ c)
IsAt-index [] i w c a = absurd a
IsAt-index (x ∷ cs) i w c (inl e) = (0, omega (arith, e.0), omega arith, e.1)
IsAt-index (x ∷ cs) i w c (inr a) =
    let r : (k : ℕ) × (w ≡ suc i + k) × (k < length cs) × (get_or cs k c ≡ c) = IsAt-index cs (suc i) w c a in
    (suc r.0, omega (arith, r.1), omega (arith, r.2), r.3)

pub IsAt-from_zero : (cs : List ℕ) (w c : ℕ) → w < length cs → get_or cs w c ≡ c → IsAt 0 cs w c
IsAt-from_zero cs w c l e = subst (λ k. IsAt 0 cs k c) (let q : 0 + w ≡ w = omega arith in q) (IsAt-from_index cs 0 w c l e)

pub IsAt-zero : (cs : List ℕ) (w c : ℕ) → IsAt 0 cs w c → (w < length cs) × (get_or cs w c ≡ c)
IsAt-zero cs w c a =
    let r : (k : ℕ) × (w ≡ 0 + k) × (k < length cs) × (get_or cs k c ≡ c) = IsAt-index cs 0 w c a in
    let e : r.0 ≡ w = omega (arith, r.1) in
    (omega (arith, r.2), subst (λ k. get_or cs k c ≡ c) e r.3)

-- between the two forms of a simple path

pub Path-from_simple : (graph : List (List ℕ)) (avoided : List ℕ) (s : ℕ) (ws : List ℕ) (t : ℕ) → SimplePath graph avoided s ws t → (ss : List ℕ) × Path graph s ws ss t × IsSimple ss × Avoids avoided ss
Path-from_simple graph avoided s [] t p = (
  s ∷ [],
  (refl, refl, p.1),
  (λ i j d l k. absurd (omega arith)),
  All-from_each (λ x. Contains avoided x → ⊥) (s ∷ []) ((λ m. p.0 (IsIn-from_contains avoided s m)), tt),
)
Path-from_simple graph avoided s (w ∷ ws) t p =
    let a : (w < length (successors graph s)) × (get_or (successors graph s) w p.1.0 ≡ p.1.0) = IsAt-zero (successors graph s) w p.1.0 p.1.1 in
    let r : (ss : List ℕ) × Path graph p.1.0 ws ss t × IsSimple ss × Avoids (s ∷ avoided) ss = Path-from_simple graph (s ∷ avoided) p.1.0 ws t p.1.2 in
    let h : Each (λ x. Contains (s ∷ avoided) x → ⊥) r.0 = Each-from_all (λ x. Contains (s ∷ avoided) x → ⊥) r.0 r.3 in (
      s ∷ r.0,
      (refl, (p.1.0, a.0, a.1, r.1)),
      AllPairs-cons (λ x y. x ≡ y → ⊥) s r.0
          (All-from_each (λ y. s ≡ y → ⊥) r.0
          (Each-weaker (λ x. Contains (s ∷ avoided) x → ⊥) (λ y. s ≡ y → ⊥) (λ y f e. f (0, omega arith, e)) r.0 h))
          r.2,
      All-from_each (λ x. Contains avoided x → ⊥) (s ∷ r.0) (
        (λ m. p.0 (IsIn-from_contains avoided s m)),
        Each-weaker (λ x. Contains (s ∷ avoided) x → ⊥) (λ x. Contains avoided x → ⊥) (λ y f m. f (suc m.0, omega (arith, m.1), m.2)) r.0 h,
      ),
    )

pub SimplePath-from_path : (graph : List (List ℕ)) (avoided : List ℕ) (s : ℕ) (ws ss : List ℕ) (t : ℕ) → Path graph s ws ss t → IsSimple ss → Avoids avoided ss → SimplePath graph avoided s ws t
SimplePath-from_path graph avoided s ws [] t p q r = absurd p
SimplePath-from_path graph avoided s [] (u ∷ ss) t p q r =
    ((λ m. r 0 u (omega arith) (subst (λ x. Contains avoided x) (sym p.0) (Contains-from_in avoided s m))), p.2)
SimplePath-from_path graph avoided s (w ∷ ws) (u ∷ ss) t p q r = (
  (λ m. r 0 u (omega arith) (subst (λ x. Contains avoided x) (sym p.0) (Contains-from_in avoided s m))),
  (
    p.1.0,
    IsAt-from_zero (successors graph s) w p.1.0 p.1.1 p.1.2,
    SimplePath-from_path graph (s ∷ avoided) p.1.0 ws ss t p.1.3 (λ i j d l k. q (suc i) (suc j) d (omega arith) (omega arith)) away,
  ),
)
  where
    away : Avoids (s ∷ avoided) ss
    away k d l m = go (IsIn-from_contains (s ∷ avoided) (get_or ss k d) m)
      where
        go : IsIn (s ∷ avoided) (get_or ss k d) → ⊥
        go (inl e) = q 0 (suc k) d (omega arith) (omega arith) (p.0 ∙ e)
        go (inr n) = r (suc k) d (omega arith) (Contains-from_in avoided (get_or ss k d) n)

pub IsClosed-path : (graph : List (List ℕ)) (avoided seen : List ℕ) → IsClosed graph avoided seen → (s : ℕ) (ws ss : List ℕ) (t : ℕ) → IsIn seen s → Path graph s ws ss t → Avoids avoided ss → IsIn seen t
IsClosed-path graph avoided seen C s ws [] t m p r = absurd p
IsClosed-path graph avoided seen C s [] (u ∷ ss) t m p r = subst (λ x. IsIn seen x) p.2 m
IsClosed-path graph avoided seen C s (w ∷ ws) (u ∷ ss) t m p r =
    IsClosed-path graph avoided seen C p.1.0 ws ss t
    (C s m (λ n. r 0 u (omega arith) (subst (λ x. Contains avoided x) (sym p.0) (Contains-from_in avoided s n))) w p.1.0 (IsAt-from_zero (successors graph s) w p.1.0 p.1.1 p.1.2))
    p.1.3 (λ k d l. r (suc k) d (omega arith))

-- a path does not end in `avoided`
pub Path-end : (graph : List (List ℕ)) (avoided : List ℕ) (s : ℕ) (ws ss : List ℕ) (t : ℕ) → Path graph s ws ss t → Avoids avoided ss → IsIn avoided t → ⊥
Path-end graph avoided s ws [] t p r m = absurd p
Path-end graph avoided s [] (u ∷ ss) t p r m = r 0 u (omega arith) (subst (λ x. Contains avoided x) (sym (p.0 ∙ p.2)) (Contains-from_in avoided t m))
Path-end graph avoided s (w ∷ ws) (u ∷ ss) t p r m = Path-end graph avoided p.1.0 ws ss t p.1.3 (λ k d l. r (suc k) d (omega arith)) m

-- what is visited after the list is what was before, and the states of the list
pub IsIn-visited : (seen : List ℕ) (es : List Found) (x : ℕ) → IsIn (visited seen es) x → (IsIn seen x → ⊥) → Contains (map (λ e. e.state) es) x
IsIn-visited seen [] x m n = absurd (n m)
IsIn-visited seen (e ∷ es) x m n = go (decide_in (e.state ∷ []) x) (IsIn-visited (e.state ∷ seen) es x m)
  where
    go : Dec (IsIn (e.state ∷ []) x) → ((IsIn (e.state ∷ seen) x → ⊥) → Contains (map (λ f. f.state) es) x) → Contains (map (λ f. f.state) (e ∷ es)) x
    go (yes (inl h)) f = (0, omega arith, h)
    go (yes (inr h)) f = absurd h
    go (no h) f =
        let r : Contains (map (λ d. d.state) es) x = f not in (suc r.0, omega (arith, r.1), r.2)
      where
        not : IsIn (e.state ∷ seen) x → ⊥
        not (inl k) = h (inl k)
        not (inr k) = n k

pub AreFresh-avoids : (seen : List ℕ) (es : List Found) → AreFresh seen es → Each (λ e. IsIn seen e.state → ⊥) es
AreFresh-avoids seen [] h = tt
AreFresh-avoids seen (e ∷ es) h =
    (h.0, Each-weaker (λ f. IsIn (e.state ∷ seen) f.state → ⊥) (λ f. IsIn seen f.state → ⊥) (λ f n m. n (inr m)) es (AreFresh-avoids (e.state ∷ seen) es h.1))

pub AreFresh-once : (seen : List ℕ) (es : List Found) → AreFresh seen es → AllPairs (λ e f. e.state ≡ f.state → ⊥) es
AreFresh-once seen [] h = λ i j d l k. absurd (omega arith)
AreFresh-once seen (e ∷ es) h =
    AllPairs-cons (λ x y. x.state ≡ y.state → ⊥) e es
    (All-from_each (λ y. e.state ≡ y.state → ⊥) es
    (Each-weaker (λ f. IsIn (e.state ∷ seen) f.state → ⊥) (λ f. e.state ≡ f.state → ⊥) (λ f n q. n (inl q)) es (AreFresh-avoids (e.state ∷ seen) es h.1)))
    (AreFresh-once (e.state ∷ seen) es h.1)

pub IsAscending-pairs : (es : List Found) → IsAscending es → AllPairs (λ e f. IsBefore e.choices f.choices) es
IsAscending-pairs [] h = λ i j d l k. absurd (omega arith)
IsAscending-pairs (e ∷ es) h =
    AllPairs-cons (λ x y. IsBefore x.choices y.choices) e es (All-from_each (λ y. IsBefore e.choices y.choices) es h.0) (IsAscending-pairs es h.1)

-- the law: es lists what can be reached from s outside `avoided`, each state once, with its least choices, in their order
pub record IsSearch (graph : List (List ℕ)) (avoided : List ℕ) (s : ℕ) (es : List Found) : Type 0 where
  pub path : All (λ e. (ss : List ℕ) × Path graph s e.choices ss e.state × IsSimple ss × Avoids avoided ss) es
  pub once : AllPairs (λ e f. e.state ≡ f.state → ⊥) es
  pub outside : All (λ e. Contains avoided e.state → ⊥) es
  pub complete : (ws ss : List ℕ) (t : ℕ) → Path graph s ws ss t → Avoids avoided ss → Contains (map (λ e. e.state) es) t
  pub least : All (λ e. (ws ss : List ℕ) → Path graph s ws ss e.state → IsSimple ss → Avoids avoided ss → IsBefore ws e.choices → ⊥) es
  pub order : AllPairs (λ e f. IsBefore e.choices f.choices) es

pub search_within-is_search : (graph : List (List ℕ)) (k : ℕ) (avoided : List ℕ) (s : ℕ) → unvisited avoided (length graph) < k → IsSearch graph avoided s (search_within graph k avoided s)
search_within-is_search graph k avoided s b =
    let es : List Found = search_within graph k avoided s in
    let c : IsClosed graph avoided (visited avoided es) × IsIn (visited avoided es) s = search_within-complete graph k avoided s b in
    record {
      path =
          All-from_each (λ e. (ss : List ℕ) × Path graph s e.choices ss e.state × IsSimple ss × Avoids avoided ss) es
          (Each-weaker (λ e. SimplePath graph avoided s e.choices e.state) (λ e. (ss : List ℕ) × Path graph s e.choices ss e.state × IsSimple ss × Avoids avoided ss)
          (λ e p. Path-from_simple graph avoided s e.choices e.state p) es (search_within-simple graph k avoided s));
      once = AreFresh-once avoided es (search_within-fresh graph k avoided s);
      outside =
          All-from_each (λ e. Contains avoided e.state → ⊥) es
          (Each-weaker (λ e. IsIn avoided e.state → ⊥) (λ e. Contains avoided e.state → ⊥) (λ e n m. n (IsIn-from_contains avoided e.state m)) es
          (AreFresh-avoids avoided es (search_within-fresh graph k avoided s)));
      complete = λ ws ss t p r. IsIn-visited avoided es t (IsClosed-path graph avoided (visited avoided es) c.0 s ws ss t c.1 p r) (Path-end graph avoided s ws ss t p r);
      least =
          All-from_each (λ e. (ws ss : List ℕ) → Path graph s ws ss e.state → IsSimple ss → Avoids avoided ss → IsBefore ws e.choices → ⊥) es
          (Each-weaker (λ e. (ws : List ℕ) → SimplePath graph avoided s ws e.state → IsBefore ws e.choices → ⊥) (λ e. (ws ss : List ℕ) → Path graph s ws ss e.state → IsSimple ss → Avoids avoided ss → IsBefore ws e.choices → ⊥)
          (λ e f ws ss p q r. f ws (SimplePath-from_path graph avoided s ws ss e.state p q r)) es (search_within-least graph k avoided s b));
      order = IsAscending-pairs es (search_within-ascending graph k avoided s);
    }

-- the same from several starts
pub record IsSearchFrom (graph : List (List ℕ)) (avoided starts : List ℕ) (es : List Found) : Type 0 where
  pub path : All (λ e. (ss : List ℕ) × PathFrom graph starts e.choices ss e.state × IsSimple ss × Avoids avoided ss) es
  pub once : AllPairs (λ e f. e.state ≡ f.state → ⊥) es
  pub outside : All (λ e. Contains avoided e.state → ⊥) es
  pub complete : (ws ss : List ℕ) (t : ℕ) → PathFrom graph starts ws ss t → Avoids avoided ss → Contains (map (λ e. e.state) es) t
  pub least : All (λ e. (ws ss : List ℕ) → PathFrom graph starts ws ss e.state → IsSimple ss → Avoids avoided ss → IsBefore ws e.choices → ⊥) es
  pub order : AllPairs (λ e f. IsBefore e.choices f.choices) es

pub PathFrom-from_simple : (graph : List (List ℕ)) (avoided starts ws : List ℕ) (t : ℕ) → SimplePathFrom graph avoided 0 starts ws t → (ss : List ℕ) × PathFrom graph starts ws ss t × IsSimple ss × Avoids avoided ss
PathFrom-from_simple graph avoided starts [] t p = absurd p
PathFrom-from_simple graph avoided starts (w ∷ ws) t p =
    let a : (w < length starts) × (get_or starts w p.0 ≡ p.0) = IsAt-zero starts w p.0 p.1 in
    let r : (ss : List ℕ) × Path graph p.0 ws ss t × IsSimple ss × Avoids avoided ss = Path-from_simple graph avoided p.0 ws t p.2 in
    (r.0, (p.0, a.0, a.1, r.1), r.2, r.3)

pub SimplePathFrom-from_path : (graph : List (List ℕ)) (avoided starts ws ss : List ℕ) (t : ℕ) → PathFrom graph starts ws ss t → IsSimple ss → Avoids avoided ss → SimplePathFrom graph avoided 0 starts ws t
SimplePathFrom-from_path graph avoided starts [] ss t p q r = p
SimplePathFrom-from_path graph avoided starts (w ∷ ws) ss t p q r = (p.0, IsAt-from_zero starts w p.0 p.1 p.2, SimplePath-from_path graph avoided p.0 ws ss t p.3 q r)

pub search_each_within-is_search : (graph : List (List ℕ)) (k : ℕ) (avoided starts : List ℕ) → unvisited avoided (length graph) < k → IsSearchFrom graph avoided starts (search_each_within graph k avoided starts)
search_each_within-is_search graph k avoided starts b =
    let es : List Found = search_each_within graph k avoided starts in
    let c : Covers graph avoided (visited avoided es) 0 starts =
    search_each-complete graph k (search_within graph k) (search_within-complete graph k) avoided avoided (IsClosed-self graph avoided) starts 0 (λ w d a. b) in
    let f : AreFresh avoided es = search_each-fresh (search_within graph k) (search_within-fresh graph k) avoided starts 0 in
    let u : AreBySimplePathsFrom graph avoided 0 starts es = search_each-simple graph (search_within graph k) (search_within-simple graph k) avoided avoided (λ x m. m) starts 0 in
    let l : IsLeastFrom graph avoided 0 starts es =
    search_each-least graph k (search_within graph k) (search_within-simple graph k) (search_within-complete graph k) (search_within-least graph k) avoided avoided (IsClosed-self graph avoided) starts 0 (λ w d a. b) in
    record {
      path =
          All-from_each (λ e. (ss : List ℕ) × PathFrom graph starts e.choices ss e.state × IsSimple ss × Avoids avoided ss) es
          (Each-weaker (λ e. SimplePathFrom graph avoided 0 starts e.choices e.state) (λ e. (ss : List ℕ) × PathFrom graph starts e.choices ss e.state × IsSimple ss × Avoids avoided ss)
          (λ e p. PathFrom-from_simple graph avoided starts e.choices e.state p) es u);
      once = AreFresh-once avoided es f;
      outside =
          All-from_each (λ e. Contains avoided e.state → ⊥) es
          (Each-weaker (λ e. IsIn avoided e.state → ⊥) (λ e. Contains avoided e.state → ⊥) (λ e n m. n (IsIn-from_contains avoided e.state m)) es (AreFresh-avoids avoided es f));
      complete = all_reached graph avoided starts es c;
      least =
          All-from_each (λ e. (ws ss : List ℕ) → PathFrom graph starts ws ss e.state → IsSimple ss → Avoids avoided ss → IsBefore ws e.choices → ⊥) es
          (Each-weaker (λ e. (ws : List ℕ) → SimplePathFrom graph avoided 0 starts ws e.state → IsBefore ws e.choices → ⊥) (λ e. (ws ss : List ℕ) → PathFrom graph starts ws ss e.state → IsSimple ss → Avoids avoided ss → IsBefore ws e.choices → ⊥)
          (λ e g ws ss p q r. g ws (SimplePathFrom-from_path graph avoided starts ws ss e.state p q r)) es l);
      order = IsAscending-pairs es (search_each-ascending graph (search_within graph k) (search_within-simple graph k) (search_within-ascending graph k) avoided starts 0);
    }
  where
    all_reached : (graph : List (List ℕ)) (avoided starts : List ℕ) (es : List Found) → Covers graph avoided (visited avoided es) 0 starts → (ws ss : List ℕ) (t : ℕ) → PathFrom graph starts ws ss t → Avoids avoided ss → Contains (map (λ e. e.state) es) t
    all_reached graph avoided starts es c [] ss t p r = absurd p
    all_reached graph avoided starts es c (w ∷ ws) ss t p r =
        IsIn-visited avoided es t (IsClosed-path graph avoided (visited avoided es) c.0 p.0 ws ss t (c.1 w p.0 (IsAt-from_zero starts w p.0 p.1 p.2)) p.3 r) (Path-end graph avoided p.0 ws ss t p.3 r)
