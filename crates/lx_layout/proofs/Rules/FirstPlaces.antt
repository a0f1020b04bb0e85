-- The places of the first items that have a number.
use Rattle.std.specs.Prelude.{◌≡◌, ℕ, suc, List, [], ◌∷◌, ◌++◌, length, Option, Some, None, Bool, true, false, nat_eq, option_map, refl, if◌then◌else◌}
use Rattle.std.proofs.Common.{ap, ◌∙◌}
use Rattle.lx_layout.specs.NumberIndexes.{first_place, with_place}

module _ {A : Type 0} (number_of : A → ℕ) where
  -- with one more item the place of each number that has none is that of the item
  pub first_place-pushed : (items : List A) (item : A) (number : ℕ)
      → first_place number_of (items ++ item ∷ []) number
      ≡ with_place (first_place number_of items number) (number_of item) (length items) number
  first_place-pushed [] item number = refl
  first_place-pushed (first ∷ items) item number =
      by (nat_eq number (number_of first)) (first_place number_of items number) (first_place-pushed items item number)
    where
      at : (s : Bool) → option_map suc (if s then Some (length items) else None) ≡ (if s then Some (suc (length items)) else None)
      at true = refl
      at false = refl

      by : (t : Bool) (before : Option ℕ)
          → first_place number_of (items ++ item ∷ []) number ≡ with_place before (number_of item) (length items) number
          → (if t then Some 0 else option_map suc (first_place number_of (items ++ item ∷ []) number))
          ≡ with_place (if t then Some 0 else option_map suc before) (number_of item) (suc (length items)) number
      by true before e = refl
      by false (Some place) e = ap (λ o. option_map suc o) e
      by false None e = ap (λ o. option_map suc o) e ∙ at (nat_eq number (number_of item))
