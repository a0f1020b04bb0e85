-- Classes with their graphs.
use Rattle.std.specs.Prelude.{◌≡◌, ℕ, ◌≤◌, List, [], ◌∷◌, ◌++◌, length, Some, slice_get}
use Rattle.lx_base.specs.declared.settings.Enc.{Enc}
use Rattle.lx_class.specs.declared.ranges.Range.{Range}
use Rattle.lx_encode.specs.Graph.{IsGraphOf}
use Rattle.lx_tnfa.specs.declared.classes.ClassGraph.{ClassGraph}
use Rattle.lx_tnfa.specs.declared.classes.Classes.{Classes}

-- each graph is that of its class
abbrev pub AreClasses : Enc → List ClassGraph → Type 0
AreClasses enc [] = Unit {0}
AreClasses enc (class ∷ classes) = IsGraphOf enc class.set class.graph × AreClasses enc classes

-- the class with this number is this one
abbrev pub HasClass : List ClassGraph → ℕ → List Range → Type 0
HasClass classes number set = (class : ClassGraph) × (slice_get classes number ≡ Some class) × (class.set ≡ set)

-- at most so many classes came to those that were there
pub record Adds (old new : Classes) (count : ℕ) : Type 0 where
  pub enc : new.enc ≡ old.enc
  pub later : List ClassGraph
  pub list : new.list.items ≡ old.list.items ++ later
  pub few : length later ≤ count
