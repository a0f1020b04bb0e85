-- The lemmas that the laws of the search rest on.
use Rattle.std.specs.Prelude.{◌≡◌, ℕ, zero, suc, ◌<◌, ◌≤◌, List, [], ◌∷◌, ◌++◌, refl, length}
use Rattle.std.proofs.Common.{inl, inr, sym, ap, ◌∙◌, subst, arith}
use Rattle.lx_tnfa.specs.DepthFirst.{IsIn, decide_in, successors, Found, with_choice, all_with_choice, visited}
use Rattle.lx_tnfa.proofs.Searching.SimplePaths.{IsAt, SimplePath, SimplePathFrom, counted, unvisited}
use native.Mathlib.Decide.{ℕ_discrete}

abbrev pub IsWithin : List ℕ → List ℕ → Type 0
IsWithin avoided seen = (x : ℕ) → IsIn avoided x → IsIn seen x

abbrev pub Each : {X : Type 0} → (X → Type 0) → List X → Type 0
Each P [] = Unit {0}
Each P (x ∷ xs) = P x × Each P xs

pub Each-append : {X : Type 0} (P : X → Type 0) (xs ys : List X) → Each P xs → Each P ys → Each P (xs ++ ys)
Each-append P [] ys h k = k
Each-append P (x ∷ xs) ys h k = (h.0, Each-append P xs ys h.1 k)

pub Each-weaker : {X : Type 0} (P Q : X → Type 0) → ((x : X) → P x → Q x) → (xs : List X) → Each P xs → Each Q xs
Each-weaker P Q f [] h = tt
Each-weaker P Q f (x ∷ xs) h = (f x h.0, Each-weaker P Q f xs h.1)

pub Each-both : {X : Type 0} (P Q R : X → Type 0) → ((x : X) → P x → Q x → R x) → (xs : List X) → Each P xs → Each Q xs → Each R xs
Each-both P Q R f [] h k = tt
Each-both P Q R f (x ∷ xs) h k = (f x h.0 k.0, Each-both P Q R f xs h.1 k.1)

pub Each-all_with_choice : (P : Found → Type 0) (i : ℕ) (es : List Found) → Each (λ e. P (with_choice i e)) es → Each P (all_with_choice i es)
Each-all_with_choice P i [] h = tt
Each-all_with_choice P i (e ∷ es) h = (h.0, Each-all_with_choice P i es h.1)

pub IsWithin-cons : (avoided seen : List ℕ) (s : ℕ) → IsWithin avoided seen → IsWithin (s ∷ avoided) (s ∷ seen)
IsWithin-cons avoided seen s f x (inl e) = inl e
IsWithin-cons avoided seen s f x (inr m) = inr (f x m)

-- the states visited

pub visited-append : (seen : List ℕ) (xs ys : List Found) → visited seen (xs ++ ys) ≡ visited (visited seen xs) ys
visited-append seen [] ys = refl
visited-append seen (e ∷ xs) ys = visited-append (e.state ∷ seen) xs ys

pub visited-all_with_choice : (seen : List ℕ) (i : ℕ) (es : List Found) → visited seen (all_with_choice i es) ≡ visited seen es
visited-all_with_choice seen i [] = refl
visited-all_with_choice seen i (e ∷ es) = visited-all_with_choice (e.state ∷ seen) i es

pub visited-child : (seen : List ℕ) (i : ℕ) (xs ys : List Found) → visited seen (all_with_choice i xs ++ ys) ≡ visited (visited seen xs) ys
visited-child seen i xs ys = visited-append seen (all_with_choice i xs) ys ∙ ap (λ U. visited U ys) (visited-all_with_choice seen i xs)

pub IsWithin-visited : (seen : List ℕ) (es : List Found) → IsWithin seen (visited seen es)
IsWithin-visited seen [] x m = m
IsWithin-visited seen (e ∷ es) x m = IsWithin-visited (e.state ∷ seen) es x (inr m)

-- paths

pub SimplePath-fewer : (graph : List (List ℕ)) (avoided seen : List ℕ) → IsWithin avoided seen → (s : ℕ) (ws : List ℕ) (t : ℕ) → SimplePath graph seen s ws t → SimplePath graph avoided s ws t
SimplePath-fewer graph avoided seen f s [] t p = (λ m. p.0 (f s m), p.1)
SimplePath-fewer graph avoided seen f s (w ∷ ws) t p =
    (λ m. p.0 (f s m), (p.1.0, p.1.1, SimplePath-fewer graph (s ∷ avoided) (s ∷ seen) (IsWithin-cons avoided seen s f) p.1.0 ws t p.1.2))

pub SimplePath-end : (graph : List (List ℕ)) (avoided : List ℕ) (s : ℕ) (ws : List ℕ) (t : ℕ) → SimplePath graph avoided s ws t → IsIn avoided t → ⊥
SimplePath-end graph avoided s [] t p m = p.0 (subst (λ x. IsIn avoided x) (sym p.1) m)
SimplePath-end graph avoided s (w ∷ ws) t p m = SimplePath-end graph (s ∷ avoided) p.1.0 ws t p.1.2 (inr m)

pub SimplePath-start : (graph : List (List ℕ)) (avoided : List ℕ) (s : ℕ) (ws : List ℕ) (t : ℕ) → SimplePath graph avoided s ws t → IsIn avoided s → ⊥
SimplePath-start graph avoided s [] t p = p.0
SimplePath-start graph avoided s (w ∷ ws) t p = p.0

pub SimplePathFrom-end : (graph : List (List ℕ)) (avoided : List ℕ) (i : ℕ) (cs ws : List ℕ) (t : ℕ) → SimplePathFrom graph avoided i cs ws t → IsIn avoided t → ⊥
SimplePathFrom-end graph avoided i cs [] t p m = p
SimplePathFrom-end graph avoided i cs (w ∷ ws) t p m = SimplePath-end graph avoided p.0 ws t p.2 m

pub SimplePathFrom-later : (graph : List (List ℕ)) (avoided : List ℕ) (i c : ℕ) (cs ws : List ℕ) (t : ℕ) → SimplePathFrom graph avoided (suc i) cs ws t → SimplePathFrom graph avoided i (c ∷ cs) ws t
SimplePathFrom-later graph avoided i c cs [] t p = p
SimplePathFrom-later graph avoided i c cs (w ∷ ws) t p = (p.0, inr p.1, p.2)

pub SimplePathFrom-step : (graph : List (List ℕ)) (avoided : List ℕ) (s : ℕ) (ws : List ℕ) (t : ℕ) → (IsIn avoided s → ⊥) → SimplePathFrom graph (s ∷ avoided) 0 (successors graph s) ws t → SimplePath graph avoided s ws t
SimplePathFrom-step graph avoided s [] t h p = absurd p
SimplePathFrom-step graph avoided s (w ∷ ws) t h p = (h, p)

pub IsAt-from : (i : ℕ) (cs : List ℕ) (w c : ℕ) → IsAt i cs w c → i ≤ w
IsAt-from i [] w c a = absurd a
IsAt-from i (x ∷ cs) w c (inl e) = omega (arith, e.0)
IsAt-from i (x ∷ cs) w c (inr a) = let h : suc i ≤ w = IsAt-from (suc i) cs w c a in omega arith

abbrev pub HasHead : ℕ → List ℕ → Type 0
HasHead i [] = ⊥
HasHead i (w ∷ ws) = i ≤ w

pub SimplePathFrom-headed : (graph : List (List ℕ)) (avoided : List ℕ) (i : ℕ) (cs ws : List ℕ) (t : ℕ) → SimplePathFrom graph avoided i cs ws t → HasHead i ws
SimplePathFrom-headed graph avoided i cs [] t p = p
SimplePathFrom-headed graph avoided i cs (w ∷ ws) t p = IsAt-from i cs w p.0 p.1

pub IsAt-row : (graph : List (List ℕ)) (s i w c : ℕ) → IsAt i (successors graph s) w c → s < length graph
IsAt-row [] s i w c a = absurd a
IsAt-row (r ∷ graph) zero i w c a = omega arith
IsAt-row (r ∷ graph) (suc s) i w c a = let h : s < length graph = IsAt-row graph s i w c a in omega arith

-- closed sets: each successor of a state of `seen`, except of those of `avoided`, is in `seen`

abbrev pub IsClosed : List (List ℕ) → List ℕ → List ℕ → Type 0
IsClosed graph avoided seen = (u : ℕ) → IsIn seen u → (IsIn avoided u → ⊥) → (w c : ℕ) → IsAt 0 (successors graph u) w c → IsIn seen c

pub IsClosed-self : (graph : List (List ℕ)) (avoided : List ℕ) → IsClosed graph avoided avoided
IsClosed-self graph avoided u m n w c a = absurd (n m)

pub IsClosed-more : (graph : List (List ℕ)) (avoided seen : List ℕ) (s : ℕ) → IsClosed graph avoided seen → IsClosed graph (s ∷ avoided) seen
IsClosed-more graph avoided seen s C u m n w c a = C u m (λ k. n (inr k)) w c a

pub IsClosed-cons : (graph : List (List ℕ)) (avoided seen : List ℕ) (s : ℕ) → IsClosed graph avoided seen → IsClosed graph (s ∷ avoided) (s ∷ seen)
IsClosed-cons graph avoided seen s C u (inl e) n w c a = absurd (n (inl e))
IsClosed-cons graph avoided seen s C u (inr m) n w c a = inr (C u m (λ k. n (inr k)) w c a)

pub IsClosed-trans : (graph : List (List ℕ)) (avoided seen U : List ℕ) → IsWithin seen U → IsClosed graph avoided seen → IsClosed graph seen U → IsClosed graph avoided U
IsClosed-trans graph avoided seen U f C D u m n w c a = go (decide_in seen u)
  where
    go : Dec (IsIn seen u) → IsIn U c
    go (yes k) = f c (C u k n w c a)
    go (no k) = D u m k w c a

pub IsClosed-SimplePath : (graph : List (List ℕ)) (avoided seen : List ℕ) → IsClosed graph avoided seen → (s : ℕ) (ws : List ℕ) (t : ℕ) → IsIn seen s → SimplePath graph avoided s ws t → IsIn seen t
IsClosed-SimplePath graph avoided seen C s [] t m p = subst (λ x. IsIn seen x) p.1 m
IsClosed-SimplePath graph avoided seen C s (w ∷ ws) t m p =
    IsClosed-SimplePath graph (s ∷ avoided) seen (IsClosed-more graph avoided seen s C) p.1.0 ws t (C s m p.0 w p.1.0 p.1.1) p.1.2

-- a path that avoids `avoided` and ends outside a closed set stays outside it
pub SimplePath-outside : (graph : List (List ℕ)) (avoided seen : List ℕ) → IsClosed graph avoided seen → (s : ℕ) (ws : List ℕ) (t : ℕ) → (IsIn seen t → ⊥) → SimplePath graph avoided s ws t → SimplePath graph seen s ws t
SimplePath-outside graph avoided seen C s [] t n p = (λ m. n (subst (λ x. IsIn seen x) p.1 m), p.1)
SimplePath-outside graph avoided seen C s (w ∷ ws) t n p =
    (λ m. n (IsClosed-SimplePath graph avoided seen C s (w ∷ ws) t m p), (p.1.0, p.1.1, SimplePath-outside graph (s ∷ avoided) (s ∷ seen) (IsClosed-cons graph avoided seen s C) p.1.0 ws t n' p.1.2))
  where
    n' : IsIn (s ∷ seen) t → ⊥
    n' (inl e) = SimplePath-end graph (s ∷ avoided) p.1.0 ws t p.1.2 (inl e)
    n' (inr m) = n m

-- the states left

pub counted-fewer : {A B : Type 0} → (A → B) → (d : Dec A) (e : Dec B) → counted e ≤ counted d
counted-fewer f d (yes b) = omega arith
counted-fewer f (yes a) (no h) = absurd (h (f a))
counted-fewer f (no g) (no h) = omega arith

pub counted-yes : {A : Type 0} (d : Dec A) → A → counted d ≡ 0
counted-yes (yes b) a = refl
counted-yes (no h) a = absurd (h a)

pub counted-no : {A : Type 0} (d : Dec A) → (A → ⊥) → counted d ≡ 1
counted-no (yes b) h = absurd (h b)
counted-no (no g) h = refl

pub unvisited-fewer : (avoided seen : List ℕ) → IsWithin avoided seen → (n : ℕ) → unvisited seen n ≤ unvisited avoided n
unvisited-fewer avoided seen f zero = omega arith
unvisited-fewer avoided seen f (suc n) =
    let a : counted (decide_in seen n) ≤ counted (decide_in avoided n) = counted-fewer (f n) (decide_in avoided n) (decide_in seen n) in
    let b : unvisited seen n ≤ unvisited avoided n = unvisited-fewer avoided seen f n in
    omega arith

pub unvisited-cons : (avoided : List ℕ) (s n : ℕ) → s < n → (IsIn avoided s → ⊥) → unvisited (s ∷ avoided) n < unvisited avoided n
unvisited-cons avoided s zero l h = absurd (omega arith)
unvisited-cons avoided s (suc n) l h = go (ℕ_discrete s n) (λ k. unvisited-cons avoided s n k h)
  where
    sub : IsWithin avoided (s ∷ avoided)
    sub x m = inr m

    go : Dec (s ≡ n) → (s < n → unvisited (s ∷ avoided) n < unvisited avoided n) → unvisited (s ∷ avoided) (suc n) < unvisited avoided (suc n)
    go (yes e) f =
        let a : counted (decide_in (s ∷ avoided) n) ≡ 0 = counted-yes (decide_in (s ∷ avoided) n) (inl e) in
        let b : counted (decide_in avoided n) ≡ 1 = counted-no (decide_in avoided n) (λ m. h (subst (λ x. IsIn avoided x) (sym e) m)) in
        let d : unvisited (s ∷ avoided) n ≤ unvisited avoided n = unvisited-fewer avoided (s ∷ avoided) sub n in
        omega arith
    go (no e) f =
        let a : counted (decide_in (s ∷ avoided) n) ≤ counted (decide_in avoided n) = counted-fewer (sub n) (decide_in avoided n) (decide_in (s ∷ avoided) n) in
        let d : unvisited (s ∷ avoided) n < unvisited avoided n = f (omega arith) in
        omega arith
