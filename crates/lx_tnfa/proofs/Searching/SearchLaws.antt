-- The laws of the search.
use Rattle.std.specs.Prelude.{ℕ, zero, suc, ◌<◌, ◌≤◌, List, [], ◌∷◌, ◌++◌, refl, length}
use Rattle.std.proofs.Common.{inl, inr, sym, subst, arith}
use Rattle.lx_regex.specs.Dictionary.{IsBefore}
use Rattle.lx_tnfa.specs.DepthFirst.{IsIn, decide_in, successors, Found, with_choice, all_with_choice, visited, search_each, unless_in, search_within}
use Rattle.lx_tnfa.proofs.Searching.SimplePaths.{IsAt, SimplePath, SimplePathFrom, unvisited}
use Rattle.lx_tnfa.proofs.Searching.SearchBasics.{Each, Each-append, Each-weaker, Each-both, Each-all_with_choice, IsWithin, visited-all_with_choice, visited-child, IsWithin-visited, SimplePath-fewer, SimplePath-end, SimplePathFrom-end, SimplePathFrom-later, SimplePathFrom-step, IsAt-from, HasHead, SimplePathFrom-headed, IsAt-row, IsClosed, IsClosed-self, IsClosed-trans, IsClosed-SimplePath, SimplePath-outside, unvisited-fewer, unvisited-cons}

-- a search's list of what it finds from s
abbrev pub begun : ℕ → Found
begun s = record { state = s; choices = [] }

-- what is found has simple paths

-- each listed state has a path of its choices
abbrev pub AreBySimplePaths : List (List ℕ) → List ℕ → ℕ → List Found → Type 0
AreBySimplePaths graph avoided s es = Each (λ e. SimplePath graph avoided s e.choices e.state) es

abbrev pub AreBySimplePathsFrom : List (List ℕ) → List ℕ → ℕ → List ℕ → List Found → Type 0
AreBySimplePathsFrom graph avoided i cs es = Each (λ e. SimplePathFrom graph avoided i cs e.choices e.state) es

pub search_each-simple : (graph : List (List ℕ)) (E : List ℕ → ℕ → List Found) → ((seen : List ℕ) (s : ℕ) → AreBySimplePaths graph seen s (E seen s)) → (avoided seen : List ℕ) → IsWithin avoided seen → (cs : List ℕ) (i : ℕ) → AreBySimplePathsFrom graph avoided i cs (search_each E seen cs i)
search_each-simple graph E S avoided seen f [] i = tt
search_each-simple graph E S avoided seen f (c ∷ cs) i =
    let P : Found → Type 0 = λ e. SimplePathFrom graph avoided i (c ∷ cs) e.choices e.state in
    let Q : Found → Type 0 = λ e. SimplePath graph seen c e.choices e.state in
    let R : Found → Type 0 = λ e. SimplePathFrom graph avoided (suc i) cs e.choices e.state in
    let sub : IsWithin avoided (visited seen (E seen c)) = λ x m. IsWithin-visited seen (E seen c) x (f x m) in
    Each-append P (all_with_choice i (E seen c)) (search_each E (visited seen (E seen c)) cs (suc i))
    (Each-all_with_choice P i (E seen c)
    (Each-weaker Q (λ e. P (with_choice i e)) (λ e p. (c, inl (refl, refl), SimplePath-fewer graph avoided seen f c e.choices e.state p)) (E seen c) (S seen c)))
    (Each-weaker R P (λ e p. SimplePathFrom-later graph avoided i c cs e.choices e.state p) (search_each E (visited seen (E seen c)) cs (suc i))
    (search_each-simple graph E S avoided (visited seen (E seen c)) sub cs (suc i)))

pub search_within-simple : (graph : List (List ℕ)) (k : ℕ) (seen : List ℕ) (s : ℕ) → AreBySimplePaths graph seen s (search_within graph k seen s)
search_within-simple graph zero seen s = tt
search_within-simple graph (suc k) seen s = go (decide_in seen s) (search_each-simple graph (search_within graph k) (search_within-simple graph k) (s ∷ seen) (s ∷ seen) (λ x m. m) (successors graph s) 0)
  where
    go : (d : Dec (IsIn seen s)) → AreBySimplePathsFrom graph (s ∷ seen) 0 (successors graph s) (search_each (search_within graph k) (s ∷ seen) (successors graph s) 0) → AreBySimplePaths graph seen s (unless_in d (λ u. begun s ∷ search_each (search_within graph k) (s ∷ seen) (successors graph s) 0))
    go (yes h) f = tt
    go (no h) f = (
      (h, refl),
      Each-weaker (λ e. SimplePathFrom graph (s ∷ seen) 0 (successors graph s) e.choices e.state) (λ e. SimplePath graph seen s e.choices e.state)
          (λ e p. SimplePathFrom-step graph seen s e.choices e.state h p) (search_each (search_within graph k) (s ∷ seen) (successors graph s) 0) f,
    )

-- each state is listed once, and none of `seen`
abbrev pub AreFresh : List ℕ → List Found → Type 0
AreFresh seen [] = Unit {0}
AreFresh seen (e ∷ es) = (IsIn seen e.state → ⊥) × AreFresh (e.state ∷ seen) es

pub AreFresh-append : (seen : List ℕ) (xs ys : List Found) → AreFresh seen xs → AreFresh (visited seen xs) ys → AreFresh seen (xs ++ ys)
AreFresh-append seen [] ys h k = k
AreFresh-append seen (e ∷ xs) ys h k = (h.0, AreFresh-append (e.state ∷ seen) xs ys h.1 k)

pub AreFresh-all_with_choice : (seen : List ℕ) (i : ℕ) (es : List Found) → AreFresh seen es → AreFresh seen (all_with_choice i es)
AreFresh-all_with_choice seen i [] h = tt
AreFresh-all_with_choice seen i (e ∷ es) h = (h.0, AreFresh-all_with_choice (e.state ∷ seen) i es h.1)

pub search_each-fresh : (E : List ℕ → ℕ → List Found) → ((seen : List ℕ) (s : ℕ) → AreFresh seen (E seen s)) → (seen cs : List ℕ) (i : ℕ) → AreFresh seen (search_each E seen cs i)
search_each-fresh E F seen [] i = tt
search_each-fresh E F seen (c ∷ cs) i =
    AreFresh-append seen (all_with_choice i (E seen c)) (search_each E (visited seen (E seen c)) cs (suc i))
    (AreFresh-all_with_choice seen i (E seen c) (F seen c))
    (subst (λ U. AreFresh U (search_each E (visited seen (E seen c)) cs (suc i))) (sym (visited-all_with_choice seen i (E seen c)))
    (search_each-fresh E F (visited seen (E seen c)) cs (suc i)))

pub search_within-fresh : (graph : List (List ℕ)) (k : ℕ) (seen : List ℕ) (s : ℕ) → AreFresh seen (search_within graph k seen s)
search_within-fresh graph zero seen s = tt
search_within-fresh graph (suc k) seen s = go (decide_in seen s) (search_each-fresh (search_within graph k) (search_within-fresh graph k) (s ∷ seen) (successors graph s) 0)
  where
    go : (d : Dec (IsIn seen s)) → AreFresh (s ∷ seen) (search_each (search_within graph k) (s ∷ seen) (successors graph s) 0) → AreFresh seen (unless_in d (λ u. begun s ∷ search_each (search_within graph k) (s ∷ seen) (successors graph s) 0))
    go (yes h) f = tt
    go (no h) f = (h, f)

-- completeness

-- `U` is closed but for `avoided` and has each state of cs
abbrev pub Covers : List (List ℕ) → List ℕ → List ℕ → ℕ → List ℕ → Type 0
Covers graph avoided U i cs = IsClosed graph avoided U × ((w c : ℕ) → IsAt i cs w c → IsIn U c)

-- at the search E, wherever fewer than k states are left
abbrev pub IsComplete : List (List ℕ) → ℕ → (List ℕ → ℕ → List Found) → Type 0
IsComplete graph k E = (seen : List ℕ) (s : ℕ) → unvisited seen (length graph) < k → IsClosed graph seen (visited seen (E seen s)) × IsIn (visited seen (E seen s)) s

pub search_each-complete : (graph : List (List ℕ)) (k : ℕ) (E : List ℕ → ℕ → List Found) → IsComplete graph k E → (avoided seen : List ℕ) → IsClosed graph avoided seen → (cs : List ℕ) (i : ℕ) → ((w c : ℕ) → IsAt i cs w c → unvisited seen (length graph) < k) → Covers graph avoided (visited seen (search_each E seen cs i)) i cs
search_each-complete graph k E M avoided seen C [] i B = (C, λ w c a. absurd a)
search_each-complete graph k E M avoided seen C (c ∷ cs) i B =
    let seen1 : List ℕ = visited seen (E seen c) in
    let b : unvisited seen (length graph) < k = B i c (inl (refl, refl)) in
    let l : unvisited seen1 (length graph) ≤ unvisited seen (length graph) = unvisited-fewer seen seen1 (IsWithin-visited seen (E seen c)) (length graph) in
    let b1 : unvisited seen1 (length graph) < k = omega arith in
    let m : IsClosed graph seen seen1 × IsIn seen1 c = M seen c b in
    let r : Covers graph avoided (visited seen1 (search_each E seen1 cs (suc i))) (suc i) cs =
    search_each-complete graph k E M avoided seen1 (IsClosed-trans graph avoided seen seen1 (IsWithin-visited seen (E seen c)) C m.0) cs (suc i) (λ w d a. b1) in
    subst (λ U. Covers graph avoided U i (c ∷ cs)) (sym (visited-child seen i (E seen c) (search_each E seen1 cs (suc i))))
    (r.0, in_all (visited seen1 (search_each E seen1 cs (suc i))) (IsWithin-visited seen1 (search_each E seen1 cs (suc i)) c m.1) r.1)
  where
    in_all : (U : List ℕ) → IsIn U c → ((w d : ℕ) → IsAt (suc i) cs w d → IsIn U d) → (w d : ℕ) → IsAt i (c ∷ cs) w d → IsIn U d
    in_all U here there w d (inl e) = subst (λ x. IsIn U x) e.1 here
    in_all U here there w d (inr a) = there w d a

-- the bound one call down, at a state that has a successor
pub unvisited-kids : (graph : List (List ℕ)) (k : ℕ) (seen : List ℕ) (s : ℕ) → unvisited seen (length graph) < suc k → (IsIn seen s → ⊥) → (w c : ℕ) → IsAt 0 (successors graph s) w c → unvisited (s ∷ seen) (length graph) < k
unvisited-kids graph k seen s b h w c a =
    let l : unvisited (s ∷ seen) (length graph) < unvisited seen (length graph) = unvisited-cons seen s (length graph) (IsAt-row graph s 0 w c a) h in
    omega arith

pub search_within-complete : (graph : List (List ℕ)) (k : ℕ) → IsComplete graph k (search_within graph k)
search_within-complete graph zero seen s b = absurd (omega arith)
search_within-complete graph (suc k) seen s b = go (decide_in seen s)
    (λ B. search_each-complete graph k (search_within graph k) (search_within-complete graph k) (s ∷ seen) (s ∷ seen) (IsClosed-self graph (s ∷ seen)) (successors graph s) 0 B)
  where
    K : List Found
    K = search_each (search_within graph k) (s ∷ seen) (successors graph s) 0

    all : (U : List ℕ) → Covers graph (s ∷ seen) U 0 (successors graph s) → IsClosed graph seen U
    all U r u m n w c a = at (decide_in (s ∷ []) u)
      where
        at : Dec (IsIn (s ∷ []) u) → IsIn U c
        at (yes (inl e)) = r.1 w c (subst (λ x. IsAt 0 (successors graph x) w c) (sym e) a)
        at (yes (inr e)) = absurd e
        at (no f) = r.0 u m not w c a
          where
            not : IsIn (s ∷ seen) u → ⊥
            not (inl e) = f (inl e)
            not (inr k) = n k

    go : (d : Dec (IsIn seen s)) → (((w c : ℕ) → IsAt 0 (successors graph s) w c → unvisited (s ∷ seen) (length graph) < k) → Covers graph (s ∷ seen) (visited (s ∷ seen) K) 0 (successors graph s)) → IsClosed graph seen (visited seen (unless_in d (λ u. begun s ∷ K))) × IsIn (visited seen (unless_in d (λ u. begun s ∷ K))) s
    go (yes h) f = (IsClosed-self graph seen, h)
    go (no h) f = (all (visited (s ∷ seen) K) (f (unvisited-kids graph k seen s b h)), IsWithin-visited (s ∷ seen) K s (inl refl))

-- leastness

-- no path has choices before those listed
abbrev pub IsLeast : List (List ℕ) → List ℕ → ℕ → List Found → Type 0
IsLeast graph avoided s es = Each (λ e. (ws : List ℕ) → SimplePath graph avoided s ws e.state → IsBefore ws e.choices → ⊥) es

abbrev pub IsLeastFrom : List (List ℕ) → List ℕ → ℕ → List ℕ → List Found → Type 0
IsLeastFrom graph avoided i cs es = Each (λ e. (ws : List ℕ) → SimplePathFrom graph avoided i cs ws e.state → IsBefore ws e.choices → ⊥) es

-- the list of the first child
pub head_least : (graph : List (List ℕ)) (avoided seen : List ℕ) → IsClosed graph avoided seen → (i c : ℕ) (cs : List ℕ) (t : ℕ) (ch : List ℕ) → (IsIn seen t → ⊥) → ((ws : List ℕ) → SimplePath graph seen c ws t → IsBefore ws ch → ⊥) → (ws : List ℕ) → SimplePathFrom graph avoided i (c ∷ cs) ws t → IsBefore ws (i ∷ ch) → ⊥
head_least graph avoided seen C i c cs t ch n L [] p b = p
head_least graph avoided seen C i c cs t ch n L (w ∷ ws) p b = go p.1 b
  where
    go : IsAt i (c ∷ cs) w p.0 → IsBefore (w ∷ ws) (i ∷ ch) → ⊥
    go (inl e) (inl l) = omega (arith, e.0)
    go (inl e) (inr l) = L ws (SimplePath-outside graph avoided seen C c ws t n (subst (λ x. SimplePath graph avoided x ws t) (sym e.1) p.2)) l.1
    go (inr a) (inl l) = let h : suc i ≤ w = IsAt-from (suc i) cs w p.0 a in omega arith
    go (inr a) (inr l) = let h : suc i ≤ w = IsAt-from (suc i) cs w p.0 a in omega (arith, l.0)

-- the lists of the later ones
pub tail_least : (graph : List (List ℕ)) (avoided U : List ℕ) → IsClosed graph avoided U → (i c : ℕ) (cs : List ℕ) (t : ℕ) (ch : List ℕ) → IsIn U c → (IsIn U t → ⊥) → ((ws : List ℕ) → SimplePathFrom graph avoided (suc i) cs ws t → IsBefore ws ch → ⊥) → (ws : List ℕ) → SimplePathFrom graph avoided i (c ∷ cs) ws t → IsBefore ws ch → ⊥
tail_least graph avoided U C i c cs t ch m n L [] p b = p
tail_least graph avoided U C i c cs t ch m n L (w ∷ ws) p b = go p.1
  where
    go : IsAt i (c ∷ cs) w p.0 → ⊥
    go (inl e) = n (IsClosed-SimplePath graph avoided U C c ws t m (subst (λ x. SimplePath graph avoided x ws t) (sym e.1) p.2))
    go (inr a) = L (w ∷ ws) (p.0, a, p.2) b

pub search_each-least : (graph : List (List ℕ)) (k : ℕ) (E : List ℕ → ℕ → List Found) → ((seen : List ℕ) (s : ℕ) → AreBySimplePaths graph seen s (E seen s)) → IsComplete graph k E → ((seen : List ℕ) (s : ℕ) → unvisited seen (length graph) < k → IsLeast graph seen s (E seen s)) → (avoided seen : List ℕ) → IsClosed graph avoided seen → (cs : List ℕ) (i : ℕ) → ((w c : ℕ) → IsAt i cs w c → unvisited seen (length graph) < k) → IsLeastFrom graph avoided i cs (search_each E seen cs i)
search_each-least graph k E S M L avoided seen C [] i B = tt
search_each-least graph k E S M L avoided seen C (c ∷ cs) i B =
    let seen1 : List ℕ = visited seen (E seen c) in
    let b : unvisited seen (length graph) < k = B i c (inl (refl, refl)) in
    let l : unvisited seen1 (length graph) ≤ unvisited seen (length graph) = unvisited-fewer seen seen1 (IsWithin-visited seen (E seen c)) (length graph) in
    let b1 : unvisited seen1 (length graph) < k = omega arith in
    let m : IsClosed graph seen seen1 × IsIn seen1 c = M seen c b in
    let C1 : IsClosed graph avoided seen1 = IsClosed-trans graph avoided seen seen1 (IsWithin-visited seen (E seen c)) C m.0 in
    let P : Found → Type 0 = λ e. (ws : List ℕ) → SimplePathFrom graph avoided i (c ∷ cs) ws e.state → IsBefore ws e.choices → ⊥ in
    Each-append P (all_with_choice i (E seen c)) (search_each E seen1 cs (suc i))
    (Each-all_with_choice P i (E seen c)
    (Each-both (λ e. SimplePath graph seen c e.choices e.state) (λ e. (ws : List ℕ) → SimplePath graph seen c ws e.state → IsBefore ws e.choices → ⊥) (λ e. P (with_choice i e))
    (λ e p q. head_least graph avoided seen C i c cs e.state e.choices (SimplePath-end graph seen c e.choices e.state p) q)
    (E seen c) (S seen c) (L seen c b)))
    (Each-both (λ e. SimplePathFrom graph seen1 (suc i) cs e.choices e.state) (λ e. (ws : List ℕ) → SimplePathFrom graph avoided (suc i) cs ws e.state → IsBefore ws e.choices → ⊥) P
    (λ e p q. tail_least graph avoided seen1 C1 i c cs e.state e.choices m.1 (SimplePathFrom-end graph seen1 (suc i) cs e.choices e.state p) q)
    (search_each E seen1 cs (suc i)) (search_each-simple graph E S seen1 seen1 (λ x n. n) cs (suc i))
    (search_each-least graph k E S M L avoided seen1 C1 cs (suc i) (λ w d a. b1)))

pub IsBefore-nil : (ws : List ℕ) → IsBefore ws [] → ⊥
IsBefore-nil [] b = b
IsBefore-nil (w ∷ ws) b = b

pub step_least : (graph : List (List ℕ)) (seen : List ℕ) (s t : ℕ) (ch : List ℕ) → (IsIn (s ∷ seen) t → ⊥) → ((ws : List ℕ) → SimplePathFrom graph (s ∷ seen) 0 (successors graph s) ws t → IsBefore ws ch → ⊥) → (ws : List ℕ) → SimplePath graph seen s ws t → IsBefore ws ch → ⊥
step_least graph seen s t ch n L [] p b = n (inl p.1)
step_least graph seen s t ch n L (w ∷ ws) p b = L (w ∷ ws) p.1 b

pub search_within-least : (graph : List (List ℕ)) (k : ℕ) (seen : List ℕ) (s : ℕ) → unvisited seen (length graph) < k → IsLeast graph seen s (search_within graph k seen s)
search_within-least graph zero seen s b = tt
search_within-least graph (suc k) seen s b = go (decide_in seen s)
    (search_each-simple graph (search_within graph k) (search_within-simple graph k) (s ∷ seen) (s ∷ seen) (λ x m. m) (successors graph s) 0)
    (λ B. search_each-least graph k (search_within graph k) (search_within-simple graph k) (search_within-complete graph k) (search_within-least graph k) (s ∷ seen) (s ∷ seen) (IsClosed-self graph (s ∷ seen)) (successors graph s) 0 B)
  where
    K : List Found
    K = search_each (search_within graph k) (s ∷ seen) (successors graph s) 0

    go : (d : Dec (IsIn seen s)) → AreBySimplePathsFrom graph (s ∷ seen) 0 (successors graph s) K → (((w c : ℕ) → IsAt 0 (successors graph s) w c → unvisited (s ∷ seen) (length graph) < k) → IsLeastFrom graph (s ∷ seen) 0 (successors graph s) K) → IsLeast graph seen s (unless_in d (λ u. begun s ∷ K))
    go (yes h) f g = tt
    go (no h) f g = (
      (λ ws p b. IsBefore-nil ws b),
      Each-both (λ e. SimplePathFrom graph (s ∷ seen) 0 (successors graph s) e.choices e.state) (λ e. (ws : List ℕ) → SimplePathFrom graph (s ∷ seen) 0 (successors graph s) ws e.state → IsBefore ws e.choices → ⊥) (λ e. (ws : List ℕ) → SimplePath graph seen s ws e.state → IsBefore ws e.choices → ⊥)
          (λ e p q. step_least graph seen s e.state e.choices (SimplePathFrom-end graph (s ∷ seen) 0 (successors graph s) e.choices e.state p) q)
          K f (g (unvisited-kids graph k seen s b h)),
    )

-- order

abbrev pub IsAscending : List Found → Type 0
IsAscending [] = Unit {0}
IsAscending (e ∷ es) = Each (λ f. IsBefore e.choices f.choices) es × IsAscending es

pub IsAscending-append : (xs ys : List Found) → IsAscending xs → IsAscending ys → Each (λ x. Each (λ y. IsBefore x.choices y.choices) ys) xs → IsAscending (xs ++ ys)
IsAscending-append [] ys a b h = b
IsAscending-append (x ∷ xs) ys a b h = (Each-append (λ y. IsBefore x.choices y.choices) xs ys a.0 h.0, IsAscending-append xs ys a.1 b h.1)

pub IsAscending-all_with_choice : (i : ℕ) (es : List Found) → IsAscending es → IsAscending (all_with_choice i es)
IsAscending-all_with_choice i [] a = tt
IsAscending-all_with_choice i (e ∷ es) a = (
  Each-all_with_choice (λ f. IsBefore (i ∷ e.choices) f.choices) i es
      (Each-weaker (λ f. IsBefore e.choices f.choices) (λ f. IsBefore (i ∷ e.choices) (i ∷ f.choices)) (λ f b. inr (refl, b)) es a.0),
  IsAscending-all_with_choice i es a.1,
)

pub IsBefore-headed : (i : ℕ) (ch ws : List ℕ) → HasHead (suc i) ws → IsBefore (i ∷ ch) ws
IsBefore-headed i ch [] h = absurd h
IsBefore-headed i ch (w ∷ ws) h = inl h

pub IsBefore-headed_nil : (ws : List ℕ) (i : ℕ) → HasHead i ws → IsBefore [] ws
IsBefore-headed_nil [] i h = absurd h
IsBefore-headed_nil (w ∷ ws) i h = tt

pub Each-always : {X : Type 0} (P : X → Type 0) → ((x : X) → P x) → (xs : List X) → Each P xs
Each-always P f [] = tt
Each-always P f (x ∷ xs) = (f x, Each-always P f xs)

pub search_each-ascending : (graph : List (List ℕ)) (E : List ℕ → ℕ → List Found) → ((seen : List ℕ) (s : ℕ) → AreBySimplePaths graph seen s (E seen s)) → ((seen : List ℕ) (s : ℕ) → IsAscending (E seen s)) → (seen cs : List ℕ) (i : ℕ) → IsAscending (search_each E seen cs i)
search_each-ascending graph E S A seen [] i = tt
search_each-ascending graph E S A seen (c ∷ cs) i =
    let seen1 : List ℕ = visited seen (E seen c) in
    let K : List Found = search_each E seen1 cs (suc i) in
    let P : Found → Type 0 = λ x. Each (λ y. IsBefore x.choices y.choices) K in
    IsAscending-append (all_with_choice i (E seen c)) K (IsAscending-all_with_choice i (E seen c) (A seen c)) (search_each-ascending graph E S A seen1 cs (suc i))
    (Each-all_with_choice P i (E seen c)
    (Each-always (λ e. P (with_choice i e))
    (λ e. Each-weaker (λ y. SimplePathFrom graph seen1 (suc i) cs y.choices y.state) (λ y. IsBefore (i ∷ e.choices) y.choices)
    (λ y p. IsBefore-headed i e.choices y.choices (SimplePathFrom-headed graph seen1 (suc i) cs y.choices y.state p))
    K (search_each-simple graph E S seen1 seen1 (λ x m. m) cs (suc i)))
    (E seen c)))

pub search_within-ascending : (graph : List (List ℕ)) (k : ℕ) (seen : List ℕ) (s : ℕ) → IsAscending (search_within graph k seen s)
search_within-ascending graph zero seen s = tt
search_within-ascending graph (suc k) seen s = go (decide_in seen s)
    (search_each-simple graph (search_within graph k) (search_within-simple graph k) (s ∷ seen) (s ∷ seen) (λ x m. m) (successors graph s) 0)
    (search_each-ascending graph (search_within graph k) (search_within-simple graph k) (search_within-ascending graph k) (s ∷ seen) (successors graph s) 0)
  where
    K : List Found
    K = search_each (search_within graph k) (s ∷ seen) (successors graph s) 0

    go : (d : Dec (IsIn seen s)) → AreBySimplePathsFrom graph (s ∷ seen) 0 (successors graph s) K → IsAscending K → IsAscending (unless_in d (λ u. begun s ∷ K))
    go (yes h) f a = tt
    go (no h) f a = (
      Each-weaker (λ y. SimplePathFrom graph (s ∷ seen) 0 (successors graph s) y.choices y.state) (λ y. IsBefore [] y.choices)
          (λ y p. IsBefore-headed_nil y.choices 0 (SimplePathFrom-headed graph (s ∷ seen) 0 (successors graph s) y.choices y.state p)) K f,
      a,
    )
