-- A finite list put in order, with the first of each place alone.
use Rattle.std.specs.Prelude.{◌≡◌, ℕ, zero, suc, ◌<◌, ◌⊎◌, List, [], ◌∷◌, Some, slice_get, refl}
use Rattle.std.proofs.Common.{sym, ap, subst, arith, inl, inr, ⊎_elim}

module _ (A : Type 0) where
  abbrev pub In : A → List A → Type 0
  In x [] = ⊥
  In x (y ∷ ys) = (x ≡ y) ⊎ In x ys

  pub in_at : (xs : List A) (i : ℕ) (x : A) → slice_get xs i ≡ Some x → In x xs
  in_at [] i x e = cc
  in_at (y ∷ xs) zero x e = inl (cc)
  in_at (y ∷ xs) (suc i) x e = inr (in_at xs i x e)

  pub at_in : (xs : List A) (x : A) → In x xs → (i : ℕ) × (slice_get xs i ≡ Some x)
  at_in [] x h = absurd h
  at_in (y ∷ xs) x h = ⊎_elim (λ e. (0, ap (λ z. Some z) (sym e))) (λ k. let r = at_in xs x k in (suc r.0, r.1)) h

module _ (A : Type 0) (R S : A → A → Type 0) where
  abbrev pub Sorted : List A → Type 0
  Sorted [] = Unit {0}
  Sorted (x ∷ xs) = ((y : A) → In A y xs → R x y) × Sorted xs

  abbrev pub Apart : List A → Type 0
  Apart [] = Unit {0}
  Apart (x ∷ xs) = ((y : A) → In A y xs → S x y → ⊥) × Apart xs

  pub ordered_at : (xs : List A) → Sorted xs → Apart xs → (i j : ℕ) (x y : A) → i < j → slice_get xs i ≡ Some x → slice_get xs j ≡ Some y
      → R x y × (S x y → ⊥)
  ordered_at [] s a i j x y lt e f = cc
  ordered_at (z ∷ xs) s a i zero x y lt e f = absurd (omega arith)
  ordered_at (z ∷ xs) s a zero (suc j) x y lt e f =
      let m = in_at A xs j y f in
      let k : z ≡ x = cc in
      (subst (λ n. R n y) k (s.0 y m), λ h. a.0 y m (subst (λ n. S n y) (sym k) h))
  ordered_at (z ∷ xs) s a (suc i) (suc j) x y lt e f = ordered_at xs s.1 a.1 i j x y (omega arith) e f

  pub record Inserted (x : A) (ys : List A) : Type 0 where
    pub list : List A
    pub sorted : Sorted list
    pub here : In A x list
    pub on : (y : A) → In A y ys → In A y list
    pub back : (y : A) → In A y list → (y ≡ x) ⊎ In A y ys

  pub record Arranged (xs : List A) : Type 0 where
    pub list : List A
    pub sorted : Sorted list
    pub on : (y : A) → In A y xs → In A y list
    pub back : (y : A) → In A y list → In A y xs

  pub record Removed (x : A) (ys : List A) : Type 0 where
    pub list : List A
    pub sorted : Sorted list
    pub apart : Apart list
    pub on : (y : A) → In A y ys → S x y ⊎ In A y list
    pub back : (y : A) → In A y list → In A y ys × (S x y → ⊥)

  -- for each member there is one at its place that isn't later
  pub record Distilled (xs : List A) : Type 0 where
    pub list : List A
    pub sorted : Sorted list
    pub apart : Apart list
    pub on : (z : A) → In A z xs → (y : A) × In A y list × S y z × (R z y → ⊥)
    pub back : (y : A) → In A y list → In A y xs

module _
    (A : Type 0) (P : A → Type 0) (R S : A → A → Type 0) (total : (x y : A) → P x → P y → (x ≡ y) ⊎ (R x y ⊎ R y x))
    (trans : (x y z : A) → P x → P y → P z → R x y → R y z → R x z) (asym : (x y : A) → P x → P y → R x y → R y x → ⊥)
    (decide : (x y : A) → P x → P y → S x y ⊎ (S x y → ⊥)) (self : (x : A) → P x → S x x)
    (same : (x y z : A) → S x y → S y z → S x z) where
  insert : (x : A) (ys : List A) → P x → ((y : A) → In A y ys → P y) → Sorted A R S ys → Inserted A R S x ys
  insert x [] p h s = record {
    list = x ∷ [];
    sorted = (λ y i. absurd i, tt);
    here = inl refl;
    on = λ y i. absurd i;
    back = λ y i. ⊎_elim (λ e. inl e) (λ k. absurd k) i;
  }
  insert x (y ∷ ys) p h s =
      ⊎_elim
      (λ e. record { list = y ∷ ys; sorted = s; here = inl e; on = λ z i. i; back = λ z i. inr i })
      (λ d. ⊎_elim
      (λ r. record {
        list = x ∷ y ∷ ys;
        sorted = (
          λ z i. ⊎_elim (λ e. subst (λ n. R x n) (sym e) r) (λ k. trans x y z p (h y (inl refl)) (h z (inr k)) r (s.0 z k)) i,
          s,
        );
        here = inl refl;
        on = λ z i. inr i;
        back = λ z i. i;
      })
      (λ r. let q = insert x ys p (λ z i. h z (inr i)) s.1 in record {
        list = y ∷ q.list;
        sorted = (λ z i. ⊎_elim (λ e. subst (λ n. R y n) (sym e) r) (λ k. s.0 z k) (q.back z i), q.sorted);
        here = inr q.here;
        on = λ z i. ⊎_elim (λ e. inl e) (λ k. inr (q.on z k)) i;
        back = λ z i. ⊎_elim (λ e. inr (inl e)) (λ k. ⊎_elim (λ e. inl e) (λ m. inr (inr m)) (q.back z k)) i;
      })
      d)
      (total x y p (h y (inl refl)))

  arrange : (xs : List A) → ((y : A) → In A y xs → P y) → Arranged A R S xs
  arrange [] h = record { list = []; sorted = tt; on = λ y i. i; back = λ y i. i }
  arrange (x ∷ xs) h =
      let a = arrange xs (λ y i. h y (inr i)) in
      let q = insert x a.list (h x (inl refl)) (λ y i. h y (inr (a.back y i))) a.sorted in
      record {
        list = q.list;
        sorted = q.sorted;
        on = λ y i. ⊎_elim (λ e. subst (λ n. In A n q.list) (sym e) q.here) (λ k. q.on y (a.on y k)) i;
        back = λ y i. ⊎_elim (λ e. inl e) (λ k. inr (a.back y k)) (q.back y i);
      }

  remove : (x : A) (ys : List A) → P x → ((y : A) → In A y ys → P y) → Sorted A R S ys → Apart A R S ys → Removed A R S x ys
  remove x [] p h s a = record { list = []; sorted = tt; apart = tt; on = λ y i. absurd i; back = λ y i. absurd i }
  remove x (y ∷ ys) p h s a =
      let q = remove x ys p (λ z i. h z (inr i)) s.1 a.1 in
      ⊎_elim
      (λ k. record {
        list = q.list;
        sorted = q.sorted;
        apart = q.apart;
        on = λ z i. ⊎_elim (λ e. inl (subst (λ n. S x n) (sym e) k)) (λ m. q.on z m) i;
        back = λ z i. let r = q.back z i in (inr r.0, r.1);
      })
      (λ k. record {
        list = y ∷ q.list;
        sorted = (λ z i. s.0 z (q.back z i).0, q.sorted);
        apart = (λ z i. a.0 z (q.back z i).0, q.apart);
        on = λ z i. ⊎_elim (λ e. inr (inl e)) (λ m. ⊎_elim (λ n. inl n) (λ n. inr (inr n)) (q.on z m)) i;
        back = λ z i.
            ⊎_elim
            (λ e. (inl e, λ m. k (subst (λ n. S x n) e m)))
            (λ m. let r = q.back z m in (inr r.0, r.1)) i;
      })
      (decide x y p (h y (inl refl)))

  distil : (xs : List A) → ((y : A) → In A y xs → P y) → Sorted A R S xs → Distilled A R S xs
  distil [] h s = record { list = []; sorted = tt; apart = tt; on = λ z i. absurd i; back = λ y i. i }
  distil (x ∷ xs) h s =
      let d = distil xs (λ y i. h y (inr i)) s.1 in
      let p = h x (inl refl) in
      let q = remove x d.list p (λ y i. h y (inr (d.back y i))) d.sorted d.apart in
      record {
        list = x ∷ q.list;
        sorted = (λ y i. s.0 y (d.back y (q.back y i).0), q.sorted);
        apart = (λ y i. (q.back y i).1, q.apart);
        on = λ z i.
            ⊎_elim
            (λ e.
            (x, inl refl, subst (λ n. S x n) (sym e) (self x p), λ r. let k = subst (λ n. R n x) e r in asym x x p p k k))
            (λ k.
            let o = d.on z k in
            ⊎_elim
            (λ m. (x, inl refl, same x o.0 z m o.2, λ r. asym x z p (h z (inr k)) (s.0 z k) r))
            (λ m. (o.0, inr m, o.2, o.3)) (q.on o.0 o.1))
            i;
        back = λ y i. ⊎_elim (λ e. inl e) (λ k. inr (d.back y (q.back y k).0)) i;
      }

  pub first_ones : (xs : List A) → ((y : A) → In A y xs → P y) → Distilled A R S xs
  first_ones xs h =
      let a = arrange xs h in
      let d = distil a.list (λ y i. h y (a.back y i)) a.sorted in
      record {
        list = d.list;
        sorted = d.sorted;
        apart = d.apart;
        on = λ z i. d.on z (a.on z i);
        back = λ y i. a.back y (d.back y i);
      }
