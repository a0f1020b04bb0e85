-- Lists of which the elements at one place are related.
use Rattle.std.specs.Prelude.{List, [], ◌∷◌}

-- the lists are as long as each other, and each two elements at one place are related
module _ {X Y : Type 0} (AreRelated : X → Y → Type 0) where
  abbrev pub AllPairs : List X → List Y → Type 0
  AllPairs [] [] = Unit {0}
  AllPairs [] (other ∷ others) = ⊥
  AllPairs (item ∷ items) [] = ⊥
  AllPairs (item ∷ items) (other ∷ others) = AreRelated item other × AllPairs items others
