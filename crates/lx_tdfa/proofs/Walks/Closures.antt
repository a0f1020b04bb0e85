-- What an ordered search from several starts lists, told by the members of the list.
use Rattle.std.proofs.Common.{inl, inr, sym, subst}
use Rattle.std.specs.Prelude.{◌≡◌, ℕ, suc, ◌<◌, ◌⊎◌, List, [], ◌∷◌, refl, length}
use Rattle.lx_regex.specs.Dictionary.{IsBefore}
use Rattle.lx_tnfa.specs.DepthFirst.{Found, IsIn, search_within, visited, search_from}
use Rattle.lx_tnfa.proofs.Searching.SimplePaths.{SimplePathFrom, unvisited}
use Rattle.lx_tnfa.proofs.Searching.SearchBasics.{Each, IsClosed-SimplePath, IsClosed-self}
use Rattle.lx_tnfa.proofs.Searching.SearchBounds.{enough}
use Rattle.lx_tnfa.proofs.Searching.SearchLaws.{Covers, IsAscending, search_each-ascending, search_each-complete, search_each-least, search_each-simple, search_within-ascending, search_within-complete, search_within-least, search_within-simple}
use Rattle.lx_tdfa.proofs.WordKernels.OrderedLists.{IsMember, each_member}

pub record IsSearchList (graph : List (List ℕ)) (starts : List ℕ) (es : List Found) : Type 0 where
  pub sound : (e : Found) → IsMember es e → SimplePathFrom graph [] 0 starts e.choices e.state
  pub complete : (ws : List ℕ) (t : ℕ) → SimplePathFrom graph [] 0 starts ws t
      → (e : Found) × IsMember es e × (e.state ≡ t) × (IsBefore ws e.choices → ⊥)
  pub order : IsAscending es

pub listed_in : (W : List ℕ) (es : List Found) (t : ℕ) → IsIn (visited W es) t → IsIn W t ⊎ ((e : Found) × IsMember es e × (e.state ≡ t))
listed_in W [] t m = inl m
listed_in W (e ∷ es) t m = go (listed_in (e.state ∷ W) es t m)
  where
    go : IsIn (e.state ∷ W) t ⊎ ((f : Found) × IsMember es f × (f.state ≡ t)) → IsIn W t ⊎ ((f : Found) × IsMember (e ∷ es) f × (f.state ≡ t))
    go (inl (inl q)) = inr (e, inl refl, q)
    go (inl (inr n)) = inl n
    go (inr r) = inr (r.0, inr r.1, r.2)

pub search_from-list : (graph : List (List ℕ)) (starts : List ℕ) → IsSearchList graph starts (search_from graph [] starts)
search_from-list graph starts =
    let k : ℕ = suc (length graph) in
    let es : List Found = search_from graph [] starts in
    let b : unvisited [] (length graph) < k = enough graph [] in
    let c : Covers graph [] (visited [] es) 0 starts =
    search_each-complete graph k (search_within graph k) (search_within-complete graph k) [] [] (IsClosed-self graph []) starts 0 (λ w d a. b) in
    let l : Each (λ e. (ws : List ℕ) → SimplePathFrom graph [] 0 starts ws e.state → IsBefore ws e.choices → ⊥) es =
    search_each-least graph k (search_within graph k) (search_within-simple graph k) (search_within-complete graph k) (search_within-least graph k) [] [] (IsClosed-self graph []) starts 0 (λ w d a. b) in
    let s : Each (λ e. SimplePathFrom graph [] 0 starts e.choices e.state) es = search_each-simple graph (search_within graph k) (search_within-simple graph k) [] [] (λ x m. m) starts 0 in
    record {
      sound = λ e m. each_member (λ e. SimplePathFrom graph [] 0 starts e.choices e.state) es e s m;
      complete = λ ws t p. reach_list es c l ws t p;
      order = search_each-ascending graph (search_within graph k) (search_within-simple graph k) (search_within-ascending graph k) [] starts 0;
    }
  where
    reach_list : (es : List Found) → Covers graph [] (visited [] es) 0 starts
        → Each (λ e. (ws : List ℕ) → SimplePathFrom graph [] 0 starts ws e.state → IsBefore ws e.choices → ⊥) es → (ws : List ℕ) (t : ℕ)
        → SimplePathFrom graph [] 0 starts ws t → (e : Found) × IsMember es e × (e.state ≡ t) × (IsBefore ws e.choices → ⊥)
    reach_list es c l [] t p = absurd p
    reach_list es c l (w ∷ ws) t p = go (listed_in [] es t (IsClosed-SimplePath graph [] (visited [] es) c.0 p.0 ws t (c.1 w p.0 p.1) p.2))
      where
        go : IsIn [] t ⊎ ((e : Found) × IsMember es e × (e.state ≡ t))
            → (e : Found) × IsMember es e × (e.state ≡ t) × (IsBefore (w ∷ ws) e.choices → ⊥)
        go (inl m) = absurd m
        go (inr r) = (r.0, r.1, r.2, each_member (λ e. (vs : List ℕ) → SimplePathFrom graph [] 0 starts vs e.state → IsBefore vs e.choices → ⊥) es r.0 l r.1 (w ∷ ws) (subst (λ x. SimplePathFrom graph [] 0 starts (w ∷ ws) x) (sym r.2) p))
