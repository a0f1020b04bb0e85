-- A list that is put in order has the members of the list, and rises.
use Rattle.std.proofs.Common.{inl, inr, subst}
use Rattle.std.specs.Prelude.{◌≡◌, ◌⊎◌, List, [], ◌∷◌, Bool, true, false, if◌then◌else◌, refl}
use Rattle.lx_tdfa.proofs.WordKernels.OrderedLists.{IsMember, IsRising, each_from, each_member}
use Rattle.lx_posix.specs.KernelLists.{in_order, put_in_order}

module _ {A : Type 0} (is_first : A → A → Bool) where
  pub put_back : (x : A) (ys : List A) (z : A) → IsMember (put_in_order is_first x ys) z → (x ≡ z) ⊎ IsMember ys z
  put_back x [] z m = m
  put_back x (y ∷ ys) z m = go (is_first x y) (put_back x ys z) m
    where
      go : (b : Bool) → (IsMember (put_in_order is_first x ys) z → (x ≡ z) ⊎ IsMember ys z)
          → IsMember (if b then x ∷ y ∷ ys else y ∷ put_in_order is_first x ys) z → (x ≡ z) ⊎ IsMember (y ∷ ys) z
      go true later m = m
      go false later (inl e) = inr (inl e)
      go false later (inr m) = elim (later m) [ inl e ↦ inl e | inr k ↦ inr (inr k) ]

  put_has : (x : A) (ys : List A) (z : A) → (x ≡ z) ⊎ IsMember ys z → IsMember (put_in_order is_first x ys) z
  put_has x [] z m = m
  put_has x (y ∷ ys) z m = go (is_first x y) (put_has x ys z) m
    where
      go : (b : Bool) → ((x ≡ z) ⊎ IsMember ys z → IsMember (put_in_order is_first x ys) z) → (x ≡ z) ⊎ IsMember (y ∷ ys) z
          → IsMember (if b then x ∷ y ∷ ys else y ∷ put_in_order is_first x ys) z
      go true later m = m
      go false later (inl e) = inr (later (inl e))
      go false later (inr (inl e)) = inl e
      go false later (inr (inr k)) = inr (later (inr k))

  pub order_back : (xs : List A) (z : A) → IsMember (in_order is_first xs) z → IsMember xs z
  order_back [] z m = m
  order_back (x ∷ xs) z m = elim (put_back x (in_order is_first xs) z m) [ inl e ↦ inl e | inr k ↦ inr (order_back xs z k) ]

  pub order_has : (xs : List A) (z : A) → IsMember xs z → IsMember (in_order is_first xs) z
  order_has [] z m = m
  order_has (x ∷ xs) z (inl e) = put_has x (in_order is_first xs) z (inl e)
  order_has (x ∷ xs) z (inr m) = put_has x (in_order is_first xs) z (inr (order_has xs z m))

module _
    {A : Type 0} (is_first : A → A → Bool) (P : A → Type 0) (R : A → A → Type 0)
    (yes_first : (x y : A) → P x → P y → is_first x y ≡ true → R x y)
    (not_first : (x y : A) → P x → P y → is_first x y ≡ false → R y x)
    (trans : (x y z : A) → P x → P y → P z → R x y → R y z → R x z) where
  put_rising : (x : A) (ys : List A) → P x → ((y : A) → IsMember ys y → P y) → IsRising R ys → IsRising R (put_in_order is_first x ys)
  put_rising x [] p h r = (tt, tt)
  put_rising x (y ∷ ys) p h r = go (is_first x y) refl (put_rising x ys p (λ z m. h z (inr m)) r.1)
    where
      go : (b : Bool) → is_first x y ≡ b → IsRising R (put_in_order is_first x ys)
          → IsRising R (if b then x ∷ y ∷ ys else y ∷ put_in_order is_first x ys)
      go true e later =
          let o = yes_first x y p (h y (inl refl)) e in
          ((o, each_from (R x) ys (λ z m. trans x y z p (h y (inl refl)) (h z (inr m)) o (each_member (R y) ys z r.0 m))), r)
      go false e later =
          let o = not_first x y p (h y (inl refl)) e in (
            each_from (R y) (put_in_order is_first x ys) (λ z m. elim (put_back is_first x ys z m) [
              | inl k ↦ subst (R y) k o
              | inr k ↦ each_member (R y) ys z r.0 k
            ]),
            later,
          )

  pub order_rising : (xs : List A) → ((x : A) → IsMember xs x → P x) → IsRising R (in_order is_first xs)
  order_rising [] h = tt
  order_rising (x ∷ xs) h =
      put_rising x (in_order is_first xs) (h x (inl refl)) (λ y m. h y (inr (order_back is_first xs y m)))
      (order_rising xs (λ y m. h y (inr m)))
