-- The order of words in a dictionary.
use Rattle.std.specs.Prelude.{◌≡◌, ℕ, ◌<◌, ◌⊎◌, List, [], ◌∷◌}

-- the first word comes before the second
abbrev pub IsBefore : List ℕ → List ℕ → Type 0
IsBefore [] [] = ⊥
IsBefore [] (other ∷ others) = Unit {0}
IsBefore (number ∷ numbers) [] = ⊥
IsBefore (number ∷ numbers) (other ∷ others) = (number < other) ⊎ ((number ≡ other) × IsBefore numbers others)
