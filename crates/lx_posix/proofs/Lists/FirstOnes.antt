-- Of candidates in order the first for each place are kept.
use Rattle.std.proofs.Common.{inl, inr, sym, ap, subst}
use Rattle.std.specs.Prelude.{◌≡◌, ℕ, ◌⊎◌, List, [], ◌∷◌, refl}
use Rattle.lx_tnfa.specs.DepthFirst.{IsIn, decide_in}
use Rattle.lx_tdfa.specs.Kernels.{Candidate, first_of_each, unless_seen}
use Rattle.lx_tdfa.proofs.WordKernels.OrderedLists.{IsMember, IsRising, each_from, each_member}
use Rattle.lx_tdfa.proofs.WordKernels.RunSteps.{AreApart}

abbrev kept : (seen : List ℕ) → (c : Candidate) → (cs : List Candidate) → Dec (IsIn seen c.to) → List Candidate
kept seen c cs d = unless_seen d (first_of_each seen cs) (c ∷ first_of_each (c.to ∷ seen) cs)

pub first_back : (seen : List ℕ) (cs : List Candidate) (n : Candidate) → IsMember (first_of_each seen cs) n → IsMember cs n
first_back seen [] n m = m
first_back seen (c ∷ cs) n m = go (decide_in seen c.to) (first_back seen cs n) (first_back (c.to ∷ seen) cs n) m
  where
    go : (d : Dec (IsIn seen c.to)) → (IsMember (first_of_each seen cs) n → IsMember cs n)
        → (IsMember (first_of_each (c.to ∷ seen) cs) n → IsMember cs n) → IsMember (kept seen c cs d) n → IsMember (c ∷ cs) n
    go (yes h) f g m = inr (f m)
    go (no h) f g (inl e) = inl e
    go (no h) f g (inr m) = inr (g m)

first_new : (seen : List ℕ) (cs : List Candidate) (n : Candidate) → IsMember (first_of_each seen cs) n → IsIn seen n.to → ⊥
first_new seen [] n m k = m
first_new seen (c ∷ cs) n m k = go (decide_in seen c.to) (first_new seen cs n) (first_new (c.to ∷ seen) cs n) m
  where
    go : (d : Dec (IsIn seen c.to)) → (IsMember (first_of_each seen cs) n → IsIn seen n.to → ⊥)
        → (IsMember (first_of_each (c.to ∷ seen) cs) n → IsIn (c.to ∷ seen) n.to → ⊥) → IsMember (kept seen c cs d) n → ⊥
    go (yes h) f g m = f m k
    go (no h) f g (inl e) = h (subst (λ (x : Candidate). IsIn seen x.to) (sym e) k)
    go (no h) f g (inr m) = g m (inr k)

pub first_once : (seen : List ℕ) (cs : List Candidate) → IsRising AreApart (first_of_each seen cs)
first_once seen [] = tt
first_once seen (c ∷ cs) = go (decide_in seen c.to) (first_once seen cs) (first_once (c.to ∷ seen) cs)
  where
    go : (d : Dec (IsIn seen c.to)) → IsRising AreApart (first_of_each seen cs) → IsRising AreApart (first_of_each (c.to ∷ seen) cs)
        → IsRising AreApart (kept seen c cs d)
    go (yes h) f g = f
    go (no h) f g =
        (each_from (AreApart c) (first_of_each (c.to ∷ seen) cs) (λ n m e. first_new (c.to ∷ seen) cs n m (inl e)), g)

module _ (R : Candidate → Candidate → Type 0) where
  pub first_rising : (seen : List ℕ) (cs : List Candidate) → IsRising R cs → IsRising R (first_of_each seen cs)
  first_rising seen [] r = tt
  first_rising seen (c ∷ cs) r = go (decide_in seen c.to) (first_rising seen cs r.1) (first_rising (c.to ∷ seen) cs r.1)
    where
      go : (d : Dec (IsIn seen c.to)) → IsRising R (first_of_each seen cs) → IsRising R (first_of_each (c.to ∷ seen) cs)
          → IsRising R (kept seen c cs d)
      go (yes h) f g = f
      go (no h) f g =
          (each_from (R c) (first_of_each (c.to ∷ seen) cs) (λ n m. each_member (R c) cs n r.0 (first_back (c.to ∷ seen) cs n m)), g)

  -- a candidate that is kept, for the place of one that need not be
  abbrev pub Kept : List Candidate → Candidate → Type 0
  Kept cs n = (m : Candidate) × IsMember cs m × (m.to ≡ n.to) × ((m ≡ n) ⊎ R m n)

  pub first_has : (seen : List ℕ) (cs : List Candidate) → IsRising R cs → (n : Candidate) → IsMember cs n
      → IsIn seen n.to ⊎ Kept (first_of_each seen cs) n
  first_has seen [] r n k = absurd k
  first_has seen (c ∷ cs) r n (inl e) = go (decide_in seen c.to)
    where
      go : (d : Dec (IsIn seen c.to)) → IsIn seen n.to ⊎ Kept (kept seen c cs d) n
      go (yes h) = inl (subst (λ (x : Candidate). IsIn seen x.to) e h)
      go (no h) = inr (c, inl refl, ap (λ (x : Candidate). x.to) e, inl e)
  first_has seen (c ∷ cs) r n (inr k) = go (decide_in seen c.to) (first_has seen cs r.1 n k) (first_has (c.to ∷ seen) cs r.1 n k)
    where
      go : (d : Dec (IsIn seen c.to)) → IsIn seen n.to ⊎ Kept (first_of_each seen cs) n
          → IsIn (c.to ∷ seen) n.to ⊎ Kept (first_of_each (c.to ∷ seen) cs) n → IsIn seen n.to ⊎ Kept (kept seen c cs d) n
      go (yes h) f g = f
      go (no h) f (inl (inl e)) = inr (c, inl refl, e, inr (each_member (R c) cs n r.0 k))
      go (no h) f (inl (inr m)) = inl m
      go (no h) f (inr q) = inr (q.0, inr q.1, q.2, q.3)
