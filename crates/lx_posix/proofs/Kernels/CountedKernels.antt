-- Where every kernel is the same as one of some that all differ, the count of these is the count of kernels.
use Rattle.lx_posix.specs.PosixKernel.{AllDifferByNumbers, ArePosixKernels, DiffersFromAll, HasTooManyPosixKernels, HoldEveryKernel, IsSameKernel}
use Rattle.std.specs.Prelude.{◌≡◌, ℕ, zero, suc, ◌+◌, ◌<◌, ◌≤◌, ◌⊎◌, ◌↔◌, List, [], ◌∷◌, length, Some, slice_get, sum_by, refl}
use Rattle.std.proofs.Common.{sym, ap, ◌∙◌, subst, arith, inl, inr, ⊎_elim}
use Rattle.std.proofs.lemmas.List.Sums.{sum_by-cons}
use Rattle.lx_base.specs.declared.limits.TheConstants.{KERNEL_LIMIT, PLACE_LIMIT}
use Rattle.lx_base.specs.declared.settings.Enc.{Enc}
use Rattle.lx_regex.specs.Cut.{Cut}
use Rattle.lx_regex.specs.Kernel.{SamePlaces}
use Rattle.lx_regex.specs.Term.{Term}
use Rattle.lx_regex.proofs.KernelCuts.Cuts.{place_back}
use Rattle.lx_posix.proofs.Kernels.KernelFromWalks.{place_on}
use Rattle.lx_posix.proofs.Kernels.SortedPlaces.{In, in_at}

module _ (A : Type 0) (size : A → ℕ) where
  -- a list without one of its members
  record Taken (y : A) (ys : List A) : Type 0 where
    pub rest : List A
    pub shorter : length ys ≡ suc (length rest)
    pub less : sum_by size ys ≡ size y + sum_by size rest
    pub on : (z : A) → In A z ys → (z ≡ y) ⊎ In A z rest

  take_out : (y : A) (ys : List A) → In A y ys → Taken y ys
  take_out y [] m = absurd m
  take_out y (z ∷ ys) m =
      ⊎_elim
      (λ e. record {
        rest = ys;
        shorter = refl;
        less = sum_by-cons size z ys ∙ ap (λ x. size x + sum_by size ys) (sym e);
        on = λ x i. ⊎_elim (λ k. inl (k ∙ sym e)) (λ k. inr k) i;
      })
      (λ k.
      let t = take_out y ys k in
      let a = sum_by-cons size z ys in
      let b = sum_by-cons size z t.rest in
      let c = t.less in
      let d = t.shorter in
      record {
        rest = z ∷ t.rest;
        shorter = omega arith;
        less = omega arith;
        on = λ x i. ⊎_elim (λ e. inr (inl e)) (λ k. ⊎_elim (λ e. inl e) (λ n. inr (inr n)) (t.on x k)) i;
      })
      m

  module _ (S : A → A → Type 0) (back : (x y : A) → S x y → S y x) (trans : (x y z : A) → S x y → S y z → S x z)
      (sized : (x y : A) → S x y → size x ≡ size y) where
    abbrev pub Differ : List A → Type 0
    Differ [] = Unit {0}
    Differ (x ∷ xs) = ((y : A) → In A y xs → S x y → ⊥) × Differ xs

    -- members that differ, each the same as one of some others, are no more than these
    pub no_more : (xs ys : List A) → Differ xs → ((x : A) → In A x xs → (y : A) × In A y ys × S x y)
        → (length xs ≤ length ys) × (sum_by size xs ≤ sum_by size ys)
    no_more [] ys d h = (omega arith, omega arith)
    no_more (x ∷ xs) ys d h =
        let f = h x (inl refl) in
        let t = take_out f.0 ys f.1 in
        let r =
        no_more xs t.rest d.1
        (λ z i.
        let g = h z (inr i) in
        ⊎_elim
        (λ e. absurd (d.0 z i (trans x f.0 z f.2 (subst (λ n. S n z) e (back z g.0 g.2)))))
        (λ m. (g.0, m, g.2)) (t.on g.0 g.1)) in
        let a = sum_by-cons size x xs in
        let b = t.less in
        let c = t.shorter in
        let e = sized x f.0 f.2 in
        let r0 = r.0 in
        let r1 = r.1 in (omega arith, omega arith)

module _ (enc : Enc) (rules : List Term) where
  places_back : (ks ls : List Cut) → SamePlaces enc rules ks ls → SamePlaces enc rules ls ks
  places_back [] [] p = tt
  places_back [] (b ∷ ls) p = absurd p
  places_back (a ∷ ks) [] p = absurd p
  places_back (a ∷ ks) (b ∷ ls) p = (place_back enc rules a b p.0, places_back ks ls p.1)

  places_on : (ks ls ms : List Cut) → SamePlaces enc rules ks ls → SamePlaces enc rules ls ms → SamePlaces enc rules ks ms
  places_on [] [] [] p q = tt
  places_on [] [] (c ∷ ms) p q = absurd q
  places_on [] (b ∷ ls) ms p q = absurd p
  places_on (a ∷ ks) [] ms p q = absurd p
  places_on (a ∷ ks) (b ∷ ls) [] p q = absurd q
  places_on (a ∷ ks) (b ∷ ls) (c ∷ ms) p q = (place_on enc rules a b c p.0 q.0, places_on ks ls ms p.1 q.1)

  places_length : (ks ls : List Cut) → SamePlaces enc rules ks ls → length ks ≡ length ls
  places_length [] [] p = refl
  places_length [] (b ∷ ls) p = absurd p
  places_length (a ∷ ks) [] p = absurd p
  places_length (a ∷ ks) (b ∷ ls) p = ap (λ n. suc n) (places_length ks ls p.1)

  pub place_there : (ks ls : List Cut) → SamePlaces enc rules ks ls → (i : ℕ) (a : Cut) → slice_get ks i ≡ Some a
      → (b : Cut) × (slice_get ls i ≡ Some b)
  place_there [] [] p i a e = cc
  place_there [] (y ∷ ls) p i a e = absurd p
  place_there (x ∷ ks) [] p i a e = absurd p
  place_there (x ∷ ks) (y ∷ ls) p zero a e = (y, refl)
  place_there (x ∷ ks) (y ∷ ls) p (suc i) a e = place_there ks ls p.1 i a e

  same_back : (ks ls : List Cut) → IsSameKernel enc rules ks ls → IsSameKernel enc rules ls ks
  same_back ks ls s = (
    places_back ks ls s.0,
    λ i j n a b c d ea eb ec ed. let r = s.1 i j n c d a b ec ed ea eb in (r.1, r.0),
  )

  pub same_on : (ks ls ms : List Cut) → IsSameKernel enc rules ks ls → IsSameKernel enc rules ls ms → IsSameKernel enc rules ks ms
  same_on ks ls ms s t = (
    places_on ks ls ms s.0 t.0,
    λ i j n a b c d ea eb ec ed.
        let x = place_there ks ls s.0 i a ea in
        let y = place_there ks ls s.0 j b eb in
        let p = s.1 i j n a b x.0 y.0 ea eb x.1 y.1 in
        let q = t.1 i j n x.0 y.0 c d x.1 y.1 ec ed in
        ((λ h. q.0 (p.0 h)), (λ h. p.1 (q.1 h))),
  )

  differs_all : (ks : List Cut) (others : List (List Cut)) → DiffersFromAll enc rules ks others
      → (ls : List Cut) → In (List Cut) ls others → IsSameKernel enc rules ks ls → ⊥
  differs_all ks [] d ls m s = m
  differs_all ks (other ∷ others) d ls m s =
      ⊎_elim (λ e. d.0 (subst (λ n. IsSameKernel enc rules ks n) e s)) (λ k. differs_all ks others d.1 ls k s) m

  all_differ : (kernels : List (List Cut)) → AllDifferByNumbers enc rules kernels
      → Differ (List Cut) (λ k. length k) (λ j k. IsSameKernel enc rules j k) (λ x y s. same_back x y s) (λ x y z s t. same_on x y z s t)
      (λ x y s. places_length x y s.0) kernels
  all_differ [] d = tt
  all_differ (ks ∷ kernels) d = (λ ls m s. differs_all ks kernels d.0 ls m s, all_differ kernels d.1)

  as_many : (words : List (List ℕ)) (kernels : List (List Cut)) → ArePosixKernels enc rules words kernels → length words ≡ length kernels
  as_many [] [] a = refl
  as_many [] (k ∷ kernels) a = absurd a
  as_many (w ∷ words) [] a = absurd a
  as_many (w ∷ words) (k ∷ kernels) a = ap (λ n. suc n) (as_many words kernels a.3)

  found_in : (words : List (List ℕ)) (kernels found : List (List Cut)) → ArePosixKernels enc rules words kernels
      → HoldEveryKernel enc rules found
      → (ks : List Cut) → In (List Cut) ks kernels → (ls : List Cut) × In (List Cut) ls found × IsSameKernel enc rules ks ls
  found_in [] [] found a h ks m = absurd m
  found_in [] (k ∷ kernels) found a h ks m = absurd a
  found_in (w ∷ words) [] found a h ks m = absurd a
  found_in (w ∷ words) (k ∷ kernels) found a h ks m =
      ⊎_elim
      (λ e.
      let r = h w k a.0 a.1 a.2 in
      (r.1, in_at (List Cut) found r.0 r.1 r.2, subst (λ n. IsSameKernel enc rules n r.1) (sym e) r.3))
      (λ i. found_in words kernels found a.3 h ks i) m

  pub kernels_counted :
      (words : List (List ℕ)) (kernels : List (List Cut)) → ArePosixKernels enc rules words kernels → AllDifferByNumbers enc rules kernels
      → HoldEveryKernel enc rules kernels
      → HasTooManyPosixKernels enc rules ↔ ((KERNEL_LIMIT < length words) ⊎ (PLACE_LIMIT < sum_by length kernels))
  kernels_counted words kernels are differ holds = (
    λ many.
        let n =
        no_more (List Cut)
        (λ k. length k) (λ j k. IsSameKernel enc rules j k) (λ x y s. same_back x y s) (λ x y z s t. same_on x y z s t)
        (λ x y s. places_length x y s.0) many.1 kernels (all_differ many.1 many.3)
        (λ ks m. found_in many.0 many.1 kernels many.2 holds ks m) in
        let a = as_many many.0 many.1 many.2 in
        let b = as_many words kernels are in
        let n0 = n.0 in
        let n1 = n.1 in
        ⊎_elim (λ lt. inl (omega arith)) (λ lt. inr (omega arith)) many.4,
    λ many. (words, kernels, are, differ, many),
  )
