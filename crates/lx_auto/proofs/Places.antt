-- Elements that loops have passed.
use Rattle.std.proofs.Common.{◌≡◌, ◌⊎◌, inl, inr, ℕ, zero, suc, ◌+◌, ◌<◌, List, [], ◌∷◌, length, get_or, take, Contains, sym, ◌∙◌, subst, arith}
use Rattle.std.proofs.lemmas.List.{take_more}
use Rattle.std.proofs.lemmas.List.Elements.{Contains-append_cases, Contains-get_or}

-- the element at a place, as code reads it
pub Contains-read : {X : Type 0} (xs items : List X) (place : ℕ) (x : X) → items ≡ xs → place < length items → x ≡ get_or items place x
    → Contains xs x
Contains-read xs items place x same within is =
    subst (λ l. Contains l x) same (subst (Contains items) (sym is) (Contains-get_or items place x within))

pub Contains-one : {X : Type 0} (x y : X) → Contains (x ∷ []) y → x ≡ y
Contains-one x y (zero, within, is) = is
Contains-one x y (suc place, within, is) = absurd (omega arith)

-- one more element is passed
pub taken-cases : {X : Type 0} (xs : List X) (place : ℕ) (x y : X) → place < length xs → x ≡ get_or xs place x
    → Contains (take (place + 1) xs) y → Contains (take place xs) y ⊎ (x ≡ y)
taken-cases xs place x y within is has =
    at (Contains-append_cases (take place xs) (get_or xs place x ∷ []) y (subst (λ l. Contains l y) (take_more xs place x within) has))
  where
    at : Contains (take place xs) y ⊎ Contains (get_or xs place x ∷ []) y → Contains (take place xs) y ⊎ (x ≡ y)
    at (inl earlier) = inl earlier
    at (inr last) = inr (is ∙ Contains-one (get_or xs place x) y last)
