-- The paths that are listed are all that visit no state twice.
use Rattle.std.proofs.Common.{inl, inr, sym, ap, subst, arith}
use Rattle.std.specs.Prelude.{◌≡◌, ℕ, zero, suc, ◌<◌, ◌⊎◌, List, [], ◌∷◌, length, refl}
use Rattle.lx_tnfa.specs.DepthFirst.{Found, IsIn, all_with_choice, decide_in, successors, unless_in, with_choice}
use Rattle.lx_tnfa.proofs.Searching.SearchBounds.{enough}
use Rattle.lx_tnfa.proofs.Searching.SearchLaws.{begun, unvisited-kids}
use Rattle.lx_tnfa.proofs.Searching.SimplePaths.{IsAt, SimplePath, SimplePathFrom, unvisited}
use Rattle.lx_tdfa.proofs.WordKernels.OrderedLists.{IsMember, append_member_left, append_member_right, member_append}
use Rattle.lx_posix.specs.Paths.{paths_each, paths_from, paths_within}

choice_back : (i : ℕ) (es : List Found) (e : Found) → IsMember (all_with_choice i es) e
    → (f : Found) × IsMember es f × (with_choice i f ≡ e)
choice_back i [] e m = absurd m
choice_back i (x ∷ es) e (inl h) = (x, inl refl, h)
choice_back i (x ∷ es) e (inr m) = let r = choice_back i es e m in (r.0, inr r.1, r.2)

choice_has : (i : ℕ) (es : List Found) (f : Found) → IsMember es f → IsMember (all_with_choice i es) (with_choice i f)
choice_has i [] f m = absurd m
choice_has i (x ∷ es) f (inl h) = inl (ap (with_choice i) h)
choice_has i (x ∷ es) f (inr m) = inr (choice_has i es f m)

-- a path that is listed from one of some states
pub record Listed (paths : ℕ → List Found) (states : List ℕ) (index : ℕ) (e : Found) : Type 0 where
  pub choice : ℕ
  pub state : ℕ
  pub found : Found
  pub at : IsAt index states choice state
  pub member : IsMember (paths state) found
  pub is : with_choice choice found ≡ e

each_back : (paths : ℕ → List Found) (cs : List ℕ) (i : ℕ) (e : Found) → IsMember (paths_each paths cs i) e → Listed paths cs i e
each_back paths [] i e m = absurd m
each_back paths (c ∷ cs) i e m = go (member_append (all_with_choice i (paths c)) (paths_each paths cs (suc i)) e m)
    (each_back paths cs (suc i) e)
  where
    go : IsMember (all_with_choice i (paths c)) e ⊎ IsMember (paths_each paths cs (suc i)) e
        → (IsMember (paths_each paths cs (suc i)) e → Listed paths cs (suc i) e) → Listed paths (c ∷ cs) i e
    go (inl h) later =
        let r = choice_back i (paths c) e h in
        record { choice = i; state = c; found = r.0; at = inl (refl, refl); member = r.1; is = r.2 }
    go (inr h) later =
        let r = later h in
        record { choice = r.choice; state = r.state; found = r.found; at = inr r.at; member = r.member; is = r.is }

each_has : (paths : ℕ → List Found) (cs : List ℕ) (i w c : ℕ) (f : Found) → IsAt i cs w c → IsMember (paths c) f
    → IsMember (paths_each paths cs i) (with_choice w f)
each_has paths [] i w c f a m = absurd a
each_has paths (x ∷ cs) i w c f (inl h) m =
    append_member_left (all_with_choice i (paths x)) (paths_each paths cs (suc i)) (with_choice w f)
    (subst (λ n. IsMember (all_with_choice i (paths x)) (with_choice n f)) h.0
    (choice_has i (paths x) f (subst (λ n. IsMember (paths n) f) (sym h.1) m)))
each_has paths (x ∷ cs) i w c f (inr a) m =
    append_member_right (all_with_choice i (paths x)) (paths_each paths cs (suc i)) (with_choice w f)
    (each_has paths cs (suc i) w c f a m)

module _ (graph : List (List ℕ)) where
  within_sound : (k : ℕ) (seen : List ℕ) (s : ℕ) (e : Found) → IsMember (paths_within graph k seen s) e
      → SimplePath graph seen s e.choices e.state
  within_sound zero seen s e m = absurd m
  within_sound (suc k) seen s e m = go (decide_in seen s) (λ c f. within_sound k (s ∷ seen) c f) m
    where
      on : ((c : ℕ) (f : Found) → IsMember (paths_within graph k (s ∷ seen) c) f → SimplePath graph (s ∷ seen) c f.choices f.state)
          → (IsIn seen s → ⊥) → IsMember (paths_each (paths_within graph k (s ∷ seen)) (successors graph s) 0) e
          → SimplePath graph seen s e.choices e.state
      on each n h =
          let r = each_back (paths_within graph k (s ∷ seen)) (successors graph s) 0 e h in
          subst (λ (f : Found). SimplePath graph seen s f.choices f.state) r.is (n, (r.state, r.at, each r.state r.found r.member))

      go : (d : Dec (IsIn seen s))
          → ((c : ℕ) (f : Found) → IsMember (paths_within graph k (s ∷ seen) c) f → SimplePath graph (s ∷ seen) c f.choices f.state)
          → IsMember (unless_in d (λ u. begun s ∷ paths_each (paths_within graph k (s ∷ seen)) (successors graph s) 0)) e
          → SimplePath graph seen s e.choices e.state
      go (yes h) each m = absurd m
      go (no n) each (inl h) = subst (λ (f : Found). SimplePath graph seen s f.choices f.state) h (n, refl)
      go (no n) each (inr h) = on each n h

  within_has : (k : ℕ) (seen : List ℕ) (s : ℕ) (ws : List ℕ) (t : ℕ) → unvisited seen (length graph) < k → SimplePath graph seen s ws t
      → IsMember (paths_within graph k seen s) (record { state = t; choices = ws })
  within_has zero seen s ws t b p = absurd (omega arith)
  within_has (suc k) seen s ws t b p = go (decide_in seen s) ws p (λ c vs l q. within_has k (s ∷ seen) c vs t l q)
    where
      go : (d : Dec (IsIn seen s)) → (ws : List ℕ) → SimplePath graph seen s ws t
          → ((c : ℕ) (vs : List ℕ) → unvisited (s ∷ seen) (length graph) < k → SimplePath graph (s ∷ seen) c vs t
          → IsMember (paths_within graph k (s ∷ seen) c) (record { state = t; choices = vs }))
          → IsMember (unless_in d (λ u. begun s ∷ paths_each (paths_within graph k (s ∷ seen)) (successors graph s) 0))
          (record { state = t; choices = ws })
      go (yes h) [] p each = absurd (p.0 h)
      go (yes h) (w ∷ ws) p each = absurd (p.0 h)
      go (no n) [] p each = inl (ap (λ x. record { state = x; choices = [] }) p.1)
      go (no n) (w ∷ ws) p each =
          inr (each_has (paths_within graph k (s ∷ seen)) (successors graph s) 0 w p.1.0 (record { state = t; choices = ws }) p.1.1
          (each p.1.0 ws (unvisited-kids graph k seen s b n w p.1.0 p.1.1) p.1.2))

  pub paths_from-sound : (starts : List ℕ) (e : Found) → IsMember (paths_from graph starts) e
      → SimplePathFrom graph [] 0 starts e.choices e.state
  paths_from-sound starts e m =
      let r = each_back (paths_within graph (suc (length graph)) []) starts 0 e m in
      subst (λ (f : Found). SimplePathFrom graph [] 0 starts f.choices f.state) r.is
      (r.state, r.at, within_sound (suc (length graph)) [] r.state r.found r.member)

  pub paths_from-has : (starts : List ℕ) (i : ℕ) (ws : List ℕ) (t : ℕ) → SimplePathFrom graph [] 0 starts (i ∷ ws) t
      → IsMember (paths_from graph starts) (record { state = t; choices = i ∷ ws })
  paths_from-has starts i ws t p =
      each_has (paths_within graph (suc (length graph)) []) starts 0 i p.0 (record { state = t; choices = ws }) p.1
      (within_has (suc (length graph)) [] p.0 ws t (enough graph []) p.2)
