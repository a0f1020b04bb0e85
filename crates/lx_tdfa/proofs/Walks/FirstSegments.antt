-- The first segments over a unit are one list.
use Rattle.std.proofs.Common.{◌≡◌, ℕ, ◌<◌, ◌⊎◌, inl, inr, arith, List, [], ◌∷◌, refl, sym, ap₂, ◌∙◌, subst}
use Rattle.lx_regex.specs.Script.{Symbol}
use Rattle.lx_tnfa.proofs.Searching.SearchUnique.{three_cases}
use Rattle.lx_tdfa.specs.Kernels.{Candidate, Key}
use Rattle.lx_tdfa.proofs.WordKernels.KernelSteps.{sooner_trans}
use Rattle.lx_tdfa.proofs.WordKernels.OrderedLists.{IsLesserKey, IsMember, IsRising, each_member, key_cases, lesser_key_self}
use Rattle.lx_tdfa.proofs.WordKernels.RunSteps.{AreApart, AreFirstSegments, IsSooner}

pub sooner_self : (n : Candidate) → IsSooner n n → ⊥
sooner_self n (inl lt) = omega arith
sooner_self n (inr same) = lesser_key_self n.key same.1

-- two segments to one place of which neither comes before the other
same_segment : (n m : Candidate) → n.to ≡ m.to → (IsSooner n m → ⊥) → (IsSooner m n → ⊥) → n ≡ m
same_segment n m to f g = at (three_cases n.from m.from) (key_cases n.key m.key)
  where
    at : (n.from < m.from) ⊎ ((n.from ≡ m.from) ⊎ (m.from < n.from)) → IsLesserKey n.key m.key ⊎ ((n.key ≡ m.key) ⊎ IsLesserKey m.key n.key) → n ≡ m
    at (inl lt) k = absurd (f (inl lt))
    at (inr (inr lt)) k = absurd (g (inl lt))
    at (inr (inl e)) (inl less) = absurd (f (inr (e, less)))
    at (inr (inl e)) (inr (inr less)) = absurd (g (inr (sym e, less)))
    at (inr (inl e)) (inr (inl k)) = λ i. record { from = e i; key = k i; to = to i }

once_same : (ns : List Candidate) (n m : Candidate) → IsRising AreApart ns → IsMember ns n → IsMember ns m → n.to ≡ m.to → n ≡ m
once_same [] n m r k l e = absurd k
once_same (x ∷ ns) n m r (inl p) (inl q) e = sym p ∙ q
once_same (x ∷ ns) n m r (inl p) (inr l) e = absurd (subst (λ y. AreApart y m) p (each_member (AreApart x) ns m r.0 l) e)
once_same (x ∷ ns) n m r (inr k) (inl q) e = absurd (subst (λ y. AreApart y n) q (each_member (AreApart x) ns n r.0 k) (sym e))
once_same (x ∷ ns) n m r (inr k) (inr l) e = once_same ns n m r.1 k l e

-- rising lists with the same members
rising_same : (ns ms : List Candidate) → IsRising IsSooner ns → IsRising IsSooner ms → ((n : Candidate) → IsMember ns n → IsMember ms n)
    → ((n : Candidate) → IsMember ms n → IsMember ns n) → ns ≡ ms
rising_same [] [] a b f g = refl
rising_same [] (m ∷ ms) a b f g = absurd (g m (inl refl))
rising_same (n ∷ ns) [] a b f g = absurd (f n (inl refl))
rising_same (n ∷ ns) (m ∷ ms) a b f g =
    let same : n ≡ m = heads (f n (inl refl)) (g m (inl refl)) in
    ap₂ (λ x y. x ∷ y) same (rising_same ns ms a.1 b.1 (λ x k. forth same x k (f x (inr k))) (λ x k. back same x k (g x (inr k))))
  where
    heads : IsMember (m ∷ ms) n → IsMember (n ∷ ns) m → n ≡ m
    heads (inl p) q = sym p
    heads (inr p) (inl q) = q
    heads (inr p) (inr q) =
        absurd (sooner_self n (sooner_trans n m n (each_member (IsSooner n) ns m a.0 q) (each_member (IsSooner m) ms n b.0 p)))

    forth : n ≡ m → (x : Candidate) → IsMember ns x → IsMember (m ∷ ms) x → IsMember ms x
    forth same x k (inr l) = l
    forth same x k (inl e) = absurd (sooner_self x (subst (λ y. IsSooner y x) (same ∙ e) (each_member (IsSooner n) ns x a.0 k)))

    back : n ≡ m → (x : Candidate) → IsMember ms x → IsMember (n ∷ ns) x → IsMember ns x
    back same x k (inr l) = l
    back same x k (inl e) = absurd (sooner_self x (subst (λ y. IsSooner y x) (sym same ∙ e) (each_member (IsSooner m) ms x b.0 k)))

module _ (graph : List (List ℕ)) (after : ℕ → ℕ → List ℕ) (said : ℕ → ℕ → Key → List Symbol) (starts : List ℕ) (ps : List ℕ) (u : ℕ) where
  within : (ns ms : List Candidate) → AreFirstSegments graph after said starts ps u ns → AreFirstSegments graph after said starts ps u ms
      → (n : Candidate) → IsMember ns n → IsMember ms n
  within ns ms A B n k =
      let s = A.sound n k in
      let m = B.complete n s.0 s.1 s.2 in
      let t = B.sound m.0 m.1 in
      let o = A.complete m.0 t.0 t.1 t.2 in
      let same : o.0 ≡ n = once_same ns o.0 n A.once o.1 k (o.2 ∙ m.2) in
      subst (IsMember ms) (same_segment m.0 n m.2 (subst (λ x. IsSooner m.0 x → ⊥) same o.3) m.3) m.1

  pub segments_same : (ns ms : List Candidate) → AreFirstSegments graph after said starts ps u ns
      → AreFirstSegments graph after said starts ps u ms → ns ≡ ms
  segments_same ns ms A B = rising_same ns ms A.order B.order (within ns ms A B) (within ms ns B A)
