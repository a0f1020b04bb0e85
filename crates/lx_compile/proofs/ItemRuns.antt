-- The items of a list from one on.
use Rattle.std.proofs.Common.{◌≡◌, ◌∙◌, ℕ, zero, suc, ◌+◌, ◌<◌, List, [], ◌∷◌, Some, Option, ap, sym, drop, get_or, length, refl}
use Rattle.std.specs.Prelude.{slice_get, unwrap_or}
use Rattle.std.proofs.lemmas.List.{drop_more}

-- the first one of them is the item that stands there
pub drop-item : {A : Type 0} (items : List A) (place : ℕ) (item : A) → place < length items → item ≡ get_or items place item
    → drop place items ≡ item ∷ drop (place + 1) items
drop-item items place item within is = drop_more items place item within ∙ ap (λ one. one ∷ drop (place + 1) items) (sym is)

-- an item that a place has stands there
pub item-at : {A : Type 0} (items : List A) (place : ℕ) (item : A) → slice_get items place ≡ Some item → item ≡ get_or items place item
item-at [] place item is = refl
item-at {A = A} (one ∷ items) zero item is = sym (ap (λ (found : Option A). unwrap_or found item) is)
item-at (one ∷ items) (suc place) item is = item-at items place item is
