-- What stands at an index of a list that was put together.
use Rattle.std.proofs.Common.{◌≡◌, ℕ, zero, suc, ◌⊎◌, inl, inr, List, [], ◌∷◌, ◌++◌, length, Some, refl, ap}
use Rattle.std.specs.Prelude.{slice_get}

pub slice_get-front : {A : Type 0} (xs ys : List A) (index : ℕ) (x : A) → slice_get xs index ≡ Some x → slice_get (xs ++ ys) index ≡ Some x
slice_get-front [] ys index x e = cc
slice_get-front (y ∷ xs) ys zero x e = e
slice_get-front (y ∷ xs) ys (suc index) x e = slice_get-front xs ys index x e

pub slice_get-last : {A : Type 0} (xs : List A) (x : A) → slice_get (xs ++ x ∷ []) (length xs) ≡ Some x
slice_get-last [] x = refl
slice_get-last (y ∷ xs) x = slice_get-last xs x

-- it stands in the front, or is what was put behind
pub slice_get-behind : {A : Type 0} (xs : List A) (x y : A) (index : ℕ) → slice_get (xs ++ x ∷ []) index ≡ Some y
    → (slice_get xs index ≡ Some y) ⊎ ((index ≡ length xs) × (x ≡ y))
slice_get-behind [] x y zero e = inr (refl, cc)
slice_get-behind [] x y (suc index) e = cc
slice_get-behind (z ∷ xs) x y zero e = inl e
slice_get-behind (z ∷ xs) x y (suc index) e =
    elim (slice_get-behind xs x y index e) [ inl there ↦ inl there | inr last ↦ inr (ap suc last.0, last.1) ]
