-- Graphs over numbers, of which each pair of neighbours is kept once.
use Rattle.std.specs.Prelude.{◌≡◌, ◌⊎◌, ℕ, ◌<◌, List, [], ◌∷◌, ◌++◌, length, Contains, slice_index_or, slice_set}
use Rattle.lx_regs.specs.declared.graphs.Graph.{Graph}
use Rattle.lx_regs.specs.JoinedPairs.{IsNoted}

-- the list with this number
abbrev pub list_at : List (List ℕ) → ℕ → List ℕ
list_at lists number = slice_index_or lists number []

-- an item is put at the end of the list with this number
abbrev pub put_at : List (List ℕ) → (number item : ℕ) → List (List ℕ)
put_at lists number item = slice_set lists number (list_at lists number ++ item ∷ [])

-- how many numbers a graph has
abbrev pub size_of : Graph → ℕ
size_of graph = length graph.neighbours.items

-- the other number is a neighbour
abbrev pub AreNeighbours : Graph → (number other : ℕ) → Type 0
AreNeighbours graph number other = Contains (list_at graph.neighbours.items number) other

-- a graph: neighbours are neighbours both ways, and each pair that is known is one of neighbours
pub record IsGraph (graph : Graph) : Type 0 where
  pub both_ways : (number other : ℕ) → AreNeighbours graph number other → AreNeighbours graph other number
  pub within : (number other : ℕ) → AreNeighbours graph number other → other < size_of graph
  pub known : (number other : ℕ) → IsNoted graph.pairs number other → AreNeighbours graph number other

-- the pair is this one, in one order or the other
abbrev pub IsPair : (first second number other : ℕ) → Type 0
IsPair first second number other = ((number ≡ first) × (other ≡ second)) ⊎ ((number ≡ second) × (other ≡ first))

-- a graph in which two numbers were made neighbours, and no others
pub record Joins (old new : Graph) (first second : ℕ) : Type 0 where
  pub graph : IsGraph new
  pub size : size_of new ≡ size_of old
  pub joined : AreNeighbours new first second
  pub kept : (number other : ℕ) → AreNeighbours old number other → AreNeighbours new number other
  pub only : (number other : ℕ) → AreNeighbours new number other → AreNeighbours old number other ⊎ IsPair first second number other

-- a graph in which a number was made a neighbour of each of some others, and no others
pub record JoinsEach (old new : Graph) (first : ℕ) (others : List ℕ) : Type 0 where
  pub formed : IsGraph new
  pub size : size_of new ≡ size_of old
  pub joined : (second : ℕ) → Contains others second → AreNeighbours new first second
  pub kept : (number other : ℕ) → AreNeighbours old number other → AreNeighbours new number other
  pub only : (number other : ℕ) → AreNeighbours new number other
      → AreNeighbours old number other ⊎ ((second : ℕ) × Contains others second × IsPair first second number other)
