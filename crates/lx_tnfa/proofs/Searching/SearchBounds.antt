-- The search's result does not depend on its bound, nor on how the set of visited states is listed.
use Rattle.std.specs.Prelude.{◌≡◌, ℕ, zero, suc, ◌+◌, ◌<◌, ◌≤◌, List, [], ◌∷◌, ◌++◌, refl, length}
use Rattle.std.proofs.Common.{inl, ap, ap₂, subst, arith}
use Rattle.lx_tnfa.specs.DepthFirst.{IsIn, decide_in, successors, Found, all_with_choice, visited, search_each, unless_in, search_within, search_from}
use Rattle.lx_tnfa.proofs.Searching.SimplePaths.{IsAt, counted, unvisited}
use Rattle.lx_tnfa.proofs.Searching.SearchBasics.{IsWithin, IsWithin-cons, IsWithin-visited, unvisited-fewer}
use Rattle.lx_tnfa.proofs.Searching.SearchLaws.{begun, unvisited-kids}
use Rattle.lx_tnfa.proofs.Searching.SearchPaths.{IsSearchFrom, search_each_within-is_search}

pub unvisited-le : (avoided : List ℕ) (n : ℕ) → unvisited avoided n ≤ n
unvisited-le avoided zero = omega arith
unvisited-le avoided (suc n) = go (decide_in avoided n) (unvisited-le avoided n)
  where
    go : (d : Dec (IsIn avoided n)) → unvisited avoided n ≤ n → counted d + unvisited avoided n ≤ suc n
    go (yes h) l = omega arith
    go (no h) l = omega arith

-- the search with a bound that is enough for any graph of the size
abbrev pub search_at : List (List ℕ) → List ℕ → ℕ → List Found
search_at graph avoided s = search_within graph (suc (length graph)) avoided s

pub enough : (graph : List (List ℕ)) (avoided : List ℕ) → unvisited avoided (length graph) < suc (length graph)
enough graph avoided = let h : unvisited avoided (length graph) ≤ length graph = unvisited-le avoided (length graph) in omega arith

pub search_from-is_search : (graph : List (List ℕ)) (avoided starts : List ℕ) → IsSearchFrom graph avoided starts (search_from graph avoided starts)
search_from-is_search graph avoided starts = search_each_within-is_search graph (suc (length graph)) avoided starts (enough graph avoided)

abbrev pub HaveSame : List ℕ → List ℕ → Type 0
HaveSame avoided seen = IsWithin avoided seen × IsWithin seen avoided

pub HaveSame-cons : (avoided seen : List ℕ) (s : ℕ) → HaveSame avoided seen → HaveSame (s ∷ avoided) (s ∷ seen)
HaveSame-cons avoided seen s e = (IsWithin-cons avoided seen s e.0, IsWithin-cons seen avoided s e.1)

pub HaveSame-visited : (avoided seen : List ℕ) (es : List Found) → HaveSame avoided seen → HaveSame (visited avoided es) (visited seen es)
HaveSame-visited avoided seen [] e = e
HaveSame-visited avoided seen (x ∷ es) e = HaveSame-visited (x.state ∷ avoided) (x.state ∷ seen) es (HaveSame-cons avoided seen x.state e)

-- two searches that agree wherever fewer than k and fewer than j states are left
abbrev pub Agree : ℕ → ℕ → ℕ → (List ℕ → ℕ → List Found) → (List ℕ → ℕ → List Found) → Type 0
Agree n k j E F = (avoided seen : List ℕ) (s : ℕ) → HaveSame avoided seen → unvisited avoided n < k → unvisited seen n < j → E avoided s ≡ F seen s

pub search_each-agree : (n k j : ℕ) (E F : List ℕ → ℕ → List Found) → Agree n k j E F → (avoided seen : List ℕ) → HaveSame avoided seen → (cs : List ℕ) (i : ℕ) → ((w c : ℕ) → IsAt i cs w c → unvisited avoided n < k) → ((w c : ℕ) → IsAt i cs w c → unvisited seen n < j) → search_each E avoided cs i ≡ search_each F seen cs i
search_each-agree n k j E F A avoided seen e [] i B D = refl
search_each-agree n k j E F A avoided seen e (c ∷ cs) i B D =
    let b : unvisited avoided n < k = B i c (inl (refl, refl)) in
    let d : unvisited seen n < j = D i c (inl (refl, refl)) in
    let h : E avoided c ≡ F seen c = A avoided seen c e b d in
    let avoided1 : List ℕ = visited avoided (E avoided c) in
    let seen1 : List ℕ = visited seen (F seen c) in
    let e1 : HaveSame avoided1 seen1 = subst (λ x. HaveSame avoided1 (visited seen x)) h (HaveSame-visited avoided seen (E avoided c) e) in
    let l : unvisited avoided1 n ≤ unvisited avoided n = unvisited-fewer avoided avoided1 (IsWithin-visited avoided (E avoided c)) n in
    let m : unvisited seen1 n ≤ unvisited seen n = unvisited-fewer seen seen1 (IsWithin-visited seen (F seen c)) n in
    let b1 : unvisited avoided1 n < k = omega arith in
    let d1 : unvisited seen1 n < j = omega arith in
    ap₂ (λ x y. all_with_choice i x ++ y) h (search_each-agree n k j E F A avoided1 seen1 e1 cs (suc i) (λ w x a. b1) (λ w x a. d1))

pub search_within-agree : (graph : List (List ℕ)) (k j : ℕ) → Agree (length graph) k j (search_within graph k) (search_within graph j)
search_within-agree graph zero j avoided seen s e b d = absurd (omega arith)
search_within-agree graph (suc k) zero avoided seen s e b d = absurd (omega arith)
search_within-agree graph (suc k) (suc j) avoided seen s e b d = go (decide_in avoided s) (decide_in seen s)
    (λ B D. search_each-agree (length graph) k j (search_within graph k) (search_within graph j) (search_within-agree graph k j) (s ∷ avoided) (s ∷ seen) (HaveSame-cons avoided seen s e) (successors graph s) 0 B D)
  where
    K : List Found
    K = search_each (search_within graph k) (s ∷ avoided) (successors graph s) 0

    J : List Found
    J = search_each (search_within graph j) (s ∷ seen) (successors graph s) 0

    go : (p : Dec (IsIn avoided s)) (q : Dec (IsIn seen s)) → (((w c : ℕ) → IsAt 0 (successors graph s) w c → unvisited (s ∷ avoided) (length graph) < k) → ((w c : ℕ) → IsAt 0 (successors graph s) w c → unvisited (s ∷ seen) (length graph) < j) → K ≡ J) → unless_in p (λ u. begun s ∷ K) ≡ unless_in q (λ u. begun s ∷ J)
    go (yes h) (yes g) f = refl
    go (yes h) (no g) f = absurd (g (e.0 s h))
    go (no h) (yes g) f = absurd (h (e.1 s g))
    go (no h) (no g) f = ap (λ x. begun s ∷ x) (f (unvisited-kids graph k avoided s b h) (unvisited-kids graph j seen s d g))
