-- The search by an explicit stack: the three equations that a loop's proof needs.
use Rattle.std.specs.Prelude.{◌≡◌, ℕ, suc, List, [], ◌∷◌, ◌++◌, refl, length}
use Rattle.std.proofs.Common.{sym, ap, ap₂, ◌∙◌, append_assoc, append-nil}
use Rattle.lx_tnfa.specs.DepthFirst.{IsIn, decide_in, successors, Found, all_with_choice, visited, search_each, unless_in, search_within, search_from}
use Rattle.lx_tnfa.proofs.Searching.SearchBasics.{visited-append}
use Rattle.lx_tnfa.proofs.Searching.SearchLaws.{begun, unvisited-kids}
use Rattle.lx_tnfa.proofs.Searching.SearchBounds.{search_within-agree, search_each-agree, enough, search_at}

-- what is found, with the choices p on the way to where the search began
abbrev pub after_choices : List ℕ → List Found → List Found
after_choices p [] = []
after_choices p (e ∷ es) = (record { state = e.state; choices = p ++ e.choices }) ∷ after_choices p es

-- the children of a state that the choices p reach, as a stack has them: the first one on top
abbrev pub stacked : List ℕ → List ℕ → ℕ → List Found
stacked p [] i = []
stacked p (c ∷ cs) i = (record { state = c; choices = p ++ (i ∷ []) }) ∷ stacked p cs (suc i)

-- what is still to be listed, where `avoided` are visited and the stack has these states with their choices
abbrev pub found_by : List (List ℕ) → List ℕ → List Found → List Found
found_by graph avoided [] = []
found_by graph avoided (e ∷ st) = after_choices e.choices (search_at graph avoided e.state) ++ found_by graph (visited avoided (search_at graph avoided e.state)) st

pub after_choices-append : (p : List ℕ) (xs ys : List Found) → after_choices p (xs ++ ys) ≡ after_choices p xs ++ after_choices p ys
after_choices-append p [] ys = refl
after_choices-append p (e ∷ xs) ys = ap (λ u. record { state = e.state; choices = p ++ e.choices } ∷ u) (after_choices-append p xs ys)

pub after_choices-all_with_choice : (p : List ℕ) (i : ℕ) (es : List Found) → after_choices p (all_with_choice i es) ≡ after_choices (p ++ (i ∷ [])) es
after_choices-all_with_choice p i [] = refl
after_choices-all_with_choice p i (e ∷ es) =
    ap₂ (λ c u. record { state = e.state; choices = c } ∷ u) (sym (append_assoc p (i ∷ []) e.choices)) (after_choices-all_with_choice p i es)

pub after_choices-nil : (es : List Found) → after_choices [] es ≡ es
after_choices-nil [] = refl
after_choices-nil (e ∷ es) = ap (λ u. e ∷ u) (after_choices-nil es)

pub visited-along : (avoided p : List ℕ) (es : List Found) → visited avoided (after_choices p es) ≡ visited avoided es
visited-along avoided p [] = refl
visited-along avoided p (e ∷ es) = visited-along (e.state ∷ avoided) p es

pub found_by-append : (graph : List (List ℕ)) (avoided : List ℕ) (xs ys : List Found) → found_by graph avoided (xs ++ ys) ≡ found_by graph avoided xs ++ found_by graph (visited avoided (found_by graph avoided xs)) ys
found_by-append graph avoided [] ys = refl
found_by-append graph avoided (e ∷ xs) ys =
    let seen : List ℕ = visited avoided (search_at graph avoided e.state) in
    let a : List Found = after_choices e.choices (search_at graph avoided e.state) in
    let q : visited avoided (a ++ found_by graph seen xs) ≡ visited seen (found_by graph seen xs) =
    visited-append avoided a (found_by graph seen xs) ∙ ap (λ U. visited U (found_by graph seen xs)) (visited-along avoided e.choices (search_at graph avoided e.state)) in
    ap (λ u. a ++ u) (found_by-append graph seen xs ys)
    ∙ sym (append_assoc a (found_by graph seen xs) (found_by graph (visited seen (found_by graph seen xs)) ys))
    ∙ ap (λ U. (a ++ found_by graph seen xs) ++ found_by graph U ys) (sym q)

-- the children on the stack give what the search gives of them
pub found_by-children : (graph : List (List ℕ)) (p avoided cs : List ℕ) (i : ℕ) → found_by graph avoided (stacked p cs i) ≡ after_choices p (search_each (search_at graph) avoided cs i)
found_by-children graph p avoided [] i = refl
found_by-children graph p avoided (c ∷ cs) i =
    let F : List Found = search_at graph avoided c in
    let seen : List ℕ = visited avoided F in
    ap₂ (λ x y. x ++ y) (sym (after_choices-all_with_choice p i F)) (found_by-children graph p seen cs (suc i))
    ∙ sym (after_choices-append p (all_with_choice i F) (search_each (search_at graph) seen cs (suc i)))

-- the whole search is the stack of its starts
pub found_by-starts : (graph : List (List ℕ)) (avoided starts : List ℕ) → found_by graph avoided (stacked [] starts 0) ≡ search_from graph avoided starts
found_by-starts graph avoided starts = found_by-children graph [] avoided starts 0 ∙ after_choices-nil (search_from graph avoided starts)

-- a state that is visited is dropped
pub found_by-seen : (graph : List (List ℕ)) (avoided : List ℕ) (e : Found) (st : List Found) → IsIn avoided e.state → found_by graph avoided (e ∷ st) ≡ found_by graph avoided st
found_by-seen graph avoided e st m = go (decide_in avoided e.state)
  where
    go : (d : Dec (IsIn avoided e.state)) →
        after_choices e.choices (unless_in d (λ u. begun e.state ∷ search_each (search_within graph (length graph)) (e.state ∷ avoided) (successors graph e.state) 0))
        ++ found_by graph (visited avoided (unless_in d (λ u. begun e.state ∷ search_each (search_within graph (length graph)) (e.state ∷ avoided) (successors graph e.state) 0))) st ≡ found_by graph avoided st
    go (yes h) = refl
    go (no h) = absurd (h m)

-- another one is listed, and its successors take its place
pub found_by-new : (graph : List (List ℕ)) (avoided : List ℕ) (e : Found) (st : List Found) → (IsIn avoided e.state → ⊥) →
    found_by graph avoided (e ∷ st) ≡ e ∷ found_by graph (e.state ∷ avoided) (stacked e.choices (successors graph e.state) 0 ++ st)
found_by-new graph avoided e st n = go (decide_in avoided e.state)
  where
    s : ℕ
    s = e.state

    p : List ℕ
    p = e.choices

    K : List Found
    K = search_each (search_within graph (length graph)) (s ∷ avoided) (successors graph s) 0

    J : List Found
    J = search_each (search_at graph) (s ∷ avoided) (successors graph s) 0

    same : K ≡ J
    same = search_each-agree (length graph) (length graph) (suc (length graph)) (search_within graph (length graph)) (search_at graph)
        (search_within-agree graph (length graph) (suc (length graph))) (s ∷ avoided) (s ∷ avoided) ((λ x m. m), (λ x m. m)) (successors graph s) 0
        (unvisited-kids graph (length graph) avoided s (enough graph avoided) n) (λ w c a. enough graph (s ∷ avoided))

    rest : after_choices p K ++ found_by graph (visited (s ∷ avoided) K) st ≡ found_by graph (s ∷ avoided) (stacked p (successors graph s) 0 ++ st)
    rest =
        ap (λ x. after_choices p x ++ found_by graph (visited (s ∷ avoided) x) st) same
        ∙ ap (λ U. after_choices p J ++ found_by graph U st) (sym (visited-along (s ∷ avoided) p J))
        ∙ ap (λ x. x ++ found_by graph (visited (s ∷ avoided) x) st) (sym (found_by-children graph p (s ∷ avoided) (successors graph s) 0))
        ∙ sym (found_by-append graph (s ∷ avoided) (stacked p (successors graph s) 0) st)

    go : (d : Dec (IsIn avoided s)) → after_choices p (unless_in d (λ u. begun s ∷ K)) ++ found_by graph (visited avoided (unless_in d (λ u. begun s ∷ K))) st ≡ e ∷ found_by graph (s ∷ avoided) (stacked p (successors graph s) 0 ++ st)
    go (yes h) = absurd (n h)
    go (no h) = ap₂ (λ c u. record { state = s; choices = c } ∷ u) (append-nil p) rest
