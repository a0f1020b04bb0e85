-- Facts about lists.
use Rattle.std.proofs.Common.{◌≡◌, ap, refl, ℕ, zero, suc, ◌<◌, List, [], ◌∷◌, length, drop, arith, Some, None, slice_get}

-- what stands behind a place, by the element there
pub drop-slice_get : {A : Type 0} (items : List A) (place : ℕ) (item : A) → slice_get items place ≡ Some item → drop place items ≡ item ∷ drop (suc place) items
drop-slice_get [] place item e = absurd cc
drop-slice_get (first ∷ items) zero item e = let same : first ≡ item = cc in ap (λ one. one ∷ items) same
drop-slice_get (first ∷ items) (suc place) item e = drop-slice_get items place item e

pub drop-slice_get_none : {A : Type 0} (items : List A) (place : ℕ) → slice_get items place ≡ None → drop place items ≡ []
drop-slice_get_none [] zero e = refl
drop-slice_get_none [] (suc place) e = refl
drop-slice_get_none (first ∷ items) zero e = absurd cc
drop-slice_get_none (first ∷ items) (suc place) e = drop-slice_get_none items place e

-- a place that has an item is one of the list
pub slice_get-within : {A : Type 0} (items : List A) (place : ℕ) (item : A) → slice_get items place ≡ Some item → place < length items
slice_get-within [] place item h = absurd cc
slice_get-within (first ∷ items) zero item h = omega arith
slice_get-within (first ∷ items) (suc place) item h = omega (arith, slice_get-within items place item h)
