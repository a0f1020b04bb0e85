-- All combinations of two lists' items.
use Rattle.std.proofs.Common.{◌≡◌, ℕ, zero, suc, ◌<◌, ◌≤◌, arith, List, [], ◌∷◌, ◌++◌, map, subst, inl, inr, ◌⊎◌}
use Rattle.std.specs.Prelude.{Contains}
use Rattle.std.proofs.lemmas.Bool.{cases_lt}
use Rattle.std.proofs.lemmas.List.Elements.{Contains-append_left, Contains-append_right, Contains-push}
use Rattle.lx_auto.proofs.SameLists.{Contains-map}

pub pairings : {X Y Z : Type 0} → (X → Y → Z) → List X → List Y → List Z
pairings join [] ys = []
pairings join (x ∷ xs) ys = map (join x) ys ++ pairings join xs ys

pub Contains-pairings : {X Y Z : Type 0} (join : X → Y → Z) (xs : List X) (ys : List Y) (x : X) (y : Y) → Contains xs x → Contains ys y
    → Contains (pairings join xs ys) (join x y)
unfolding pairings
Contains-pairings join [] ys x y has also = absurd (omega (arith, has.1))
Contains-pairings join (first ∷ xs) ys x y (zero, within, is) also =
    Contains-append_left (map (join first) ys) (pairings join xs ys) (join x y)
    (subst (λ a. Contains (map (join first) ys) (join a y)) is (Contains-map (join first) ys y also))
Contains-pairings join (first ∷ xs) ys x y (suc place, within, is) also =
    Contains-append_right (map (join first) ys) (pairings join xs ys) (join x y)
    (Contains-pairings join xs ys x y (place, omega arith, is) also)

-- the numbers below a bound
pub numbers_below : ℕ → List ℕ
numbers_below zero = []
numbers_below (suc bound) = numbers_below bound ++ bound ∷ []

pub Contains-numbers_below : (bound number : ℕ) → number < bound → Contains (numbers_below bound) number
unfolding numbers_below
Contains-numbers_below zero number lt = absurd (omega arith)
Contains-numbers_below (suc bound) number lt = at (λ below. Contains-numbers_below bound number below) (cases_lt number bound)
  where
    at : (number < bound → Contains (numbers_below bound) number) → (number < bound) ⊎ (bound ≤ number)
        → Contains (numbers_below bound ++ bound ∷ []) number
    at rest (inl below) = Contains-append_left (numbers_below bound) (bound ∷ []) number (rest below)
    at rest (inr past) = let same : bound ≡ number = omega arith in subst (λ n. Contains (numbers_below bound ++ bound ∷ []) n) same
        (Contains-push (numbers_below bound) bound)
