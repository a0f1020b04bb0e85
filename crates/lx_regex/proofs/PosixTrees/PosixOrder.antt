-- The POSIX order is a strict order, total up to equal lengths.
use Rattle.std.specs.Prelude.{◌≡◌, ℕ, suc, ◌<◌, ◌⊎◌, List, [], ◌∷◌, refl}
use Rattle.std.proofs.Common.{sym, ap₂, ◌∙◌, subst, arith, inl, inr, ⊎_elim}
use Rattle.std.proofs.lemmas.Bool.{cases_order}
use Rattle.lx_regex.specs.Posix.{HaveEqualLengths, IsLonger, length_at, shape_of, size, whole}
use Rattle.lx_base.specs.declared.settings.Enc.{Enc}
use Rattle.lx_regex.proofs.PosixTrees.PosixAhead.{ahead_wins, decide}
use Rattle.lx_regex.specs.Dictionary.{IsBefore}
use Rattle.lx_regex.specs.Term.{Term}
use Rattle.lx_regex.specs.Tree.{Tree}

-- positions in preorder
pub position_order : (p q : List ℕ) → (p ≡ q) ⊎ (IsBefore p q ⊎ IsBefore q p)
position_order [] [] = inl refl
position_order [] (j ∷ q) = inr (inl tt)
position_order (i ∷ p) [] = inr (inr tt)
position_order (i ∷ p) (j ∷ q) =
    ⊎_elim
    (λ e.
    ⊎_elim
    (λ r. inl (ap₂ (λ x y. x ∷ y) e r)) (λ r. ⊎_elim (λ a. inr (inl (inr (e, a)))) (λ a. inr (inr (inr (sym e, a)))) r)
    (position_order p q))
    (λ d. ⊎_elim (λ lt. inr (inl (inl lt))) (λ gt. inr (inr (inl gt))) d)
    (cases_order i j)

pub position_trans : (p q r : List ℕ) → IsBefore p q → IsBefore q r → IsBefore p r
position_trans [] [] r a b = absurd a
position_trans [] (j ∷ q) [] a b = absurd b
position_trans [] (j ∷ q) (k ∷ r) a b = tt
position_trans (i ∷ p) [] r a b = absurd a
position_trans (i ∷ p) (j ∷ q) [] a b = absurd b
position_trans (i ∷ p) (j ∷ q) (k ∷ r) a b =
    ⊎_elim
    (λ lt. ⊎_elim (λ lt'. inl (omega arith)) (λ e. let x = e.0 in inl (omega arith)) b)
    (λ e. ⊎_elim (λ lt'. let x = e.0 in inl (omega arith)) (λ e'. inr (e.0 ∙ e'.0, position_trans p q r e.1 e'.1)) b)
    a

-- of lengths as functions on positions
abbrev pub Longer : (f g : List ℕ → ℕ) → Type 0
Longer f g = (p : List ℕ) × (g p < f p) × ((q : List ℕ) → IsBefore q p → f q ≡ g q)

pub longer_self : (f : List ℕ → ℕ) → Longer f f → ⊥
longer_self f w = let h = w.1 in omega arith

pub longer_trans : (f g h : List ℕ → ℕ) → Longer f g → Longer g h → Longer f h
longer_trans f g h a b =
    ⊎_elim
    (λ e. same e)
    (λ r. ⊎_elim
    (λ lt. let x = b.2 a.0 lt in let y = a.1 in (a.0, omega arith, λ q k. a.2 q k ∙ b.2 q (position_trans q a.0 b.0 k lt)))
    (λ gt. let x = a.2 b.0 gt in let y = b.1 in (b.0, omega arith, λ q k. a.2 q (position_trans q b.0 a.0 k gt) ∙ b.2 q k))
    r)
    (position_order a.0 b.0)
  where
    same : a.0 ≡ b.0 → Longer f h
    same e =
        let x : g a.0 < f a.0 = a.1 in
        let y : h a.0 < g a.0 = subst (λ p. h p < g p) (sym e) b.1 in
        (a.0, omega arith, λ q k. a.2 q k ∙ b.2 q (subst (λ p. IsBefore q p) e k))

pub longer_asym : (f g : List ℕ → ℕ) → Longer f g → Longer g f → ⊥
longer_asym f g a b = longer_self f (longer_trans f g f a b)

module _ (enc : Enc) {e : Term} where
  pub precedes_self : (t : Tree e) → IsLonger enc t t → ⊥
  precedes_self t w = longer_self (λ p. length_at (whole enc t) (shape_of enc t) p) w

  pub precedes_trans : (t t' t'' : Tree e) → IsLonger enc t t' → IsLonger enc t' t'' → IsLonger enc t t''
  precedes_trans t t' t'' a b =
      longer_trans
      (λ p. length_at (whole enc t) (shape_of enc t) p) (λ p. length_at (whole enc t') (shape_of enc t') p)
      (λ p. length_at (whole enc t'') (shape_of enc t'') p) a b

  pub precedes_total : (t t' : Tree e) → size (shape_of enc t) ≡ size (shape_of enc t')
      → HaveEqualLengths enc t t' ⊎ (IsLonger enc t t' ⊎ IsLonger enc t' t)
  precedes_total t t' k =
      ⊎_elim
      (λ h.
      inl (subst (λ m. (q : List ℕ) → length_at (whole enc t) (shape_of enc t) q ≡ length_at (suc m) (shape_of enc t') q) k h))
      (λ r. inr (⊎_elim
      (λ a.
      inl (subst (λ m. Longer (λ p. length_at (whole enc t) (shape_of enc t) p) (λ p. length_at (suc m) (shape_of enc t') p)) k (ahead_wins a.1)))
      (λ a.
      inr (subst (λ m. Longer (λ p. length_at (suc m) (shape_of enc t') p) (λ p. length_at (whole enc t) (shape_of enc t) p)) k (ahead_wins a.1)))
      r))
      (decide (whole enc t) (shape_of enc t) (shape_of enc t'))
