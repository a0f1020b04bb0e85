-- Colours for the numbers of a graph, counted from 0, so that neighbours have different ones.
use Rattle.std.specs.Prelude.{◌≡◌, ◌≤◌, ℕ, ◌<◌, List, [], ◌∷◌, Bool, true, false, length, take, Contains, nat_lt, slice_index, slice_index_or, slice_set, if◌then◌else◌}
use Rattle.lx_regs.specs.declared.graphs.Graph.{Graph}
use Rattle.lx_regs.specs.Graphs.{AreNeighbours, IsGraph, list_at, size_of}

-- the number has this colour, where as many have colours so far as stand in the list
abbrev pub HasColour : (colours : List ℕ) (colour : ℕ) → (number : ℕ) → Type 0
HasColour colours colour number = (number < length colours) × (slice_index colours number ≡ colour)

-- one of the neighbours has this colour, where the numbers have colours so far
abbrev pub IsTaken : (colours neighbours : List ℕ) (colour : ℕ) → Type 0
IsTaken colours neighbours colour =
    (other : ℕ) × Contains neighbours other × (other < length colours) × (slice_index colours other ≡ colour)

-- the least colour that none of the neighbours has
pub record IsLeastFree (colours neighbours : List ℕ) (colour : ℕ) : Type 0 where
  pub free : IsTaken colours neighbours colour → ⊥
  pub least : (lesser : ℕ) → lesser < colour → IsTaken colours neighbours lesser

-- the mark of a colour
abbrev pub mark_at : List Bool → ℕ → Bool
mark_at marks colour = slice_index_or marks colour false

-- the marks once the colour of a number is marked, if it has one
abbrev pub mark_one : (colours : List ℕ) → List Bool → (number : ℕ) → List Bool
mark_one colours marks number = if nat_lt number (length colours) then slice_set marks (slice_index colours number) true else marks

-- the same of several numbers
abbrev pub mark_each : (colours : List ℕ) → List Bool → (numbers : List ℕ) → List Bool
mark_each colours marks [] = marks
mark_each colours marks (number ∷ numbers) = mark_each colours (mark_one colours marks number) numbers

-- each number has a colour that no neighbour with a lesser number has, and none that is greater than itself
pub record AreColours (graph : Graph) (colours : List ℕ) : Type 0 where
  pub free : (number : ℕ) → number < length colours
      → IsTaken (take number colours) (list_at graph.neighbours.items number) (slice_index colours number) → ⊥
  pub few : (number : ℕ) → number < length colours → slice_index colours number ≤ number

-- each number has the least colour that no neighbour with a lesser number has
abbrev pub IsFirstFit : Graph → (colours : List ℕ) → Type 0
IsFirstFit graph colours = (number : ℕ) → number < length colours
    → IsLeastFree (take number colours) (list_at graph.neighbours.items number) (slice_index colours number)

-- the graph of the colours: two are neighbours where some numbers of these colours are
pub record IsMerged (graph : Graph) (colours : List ℕ) (merged : Graph) : Type 0 where
  pub formed : IsGraph merged
  pub size : size_of merged ≡ size_of graph
  pub has : (number other : ℕ) → AreNeighbours graph number other
      → AreNeighbours merged (slice_index colours number) (slice_index colours other)
  pub only : (colour other : ℕ) → AreNeighbours merged colour other
      → (number neighbour : ℕ) × AreNeighbours graph number neighbour × (slice_index colours number ≡ colour)
      × (slice_index colours neighbour ≡ other)

-- Numbers that share colours: neighbours have different ones, and for each colour and each lesser one some number of the one has a
-- neighbour of the other. So there are no fewer colours to be had by joining two of them.
pub record IsSharing (graph : Graph) (colours : List ℕ) : Type 0 where
  pub count : length colours ≡ size_of graph
  pub few : (number : ℕ) → number < size_of graph → slice_index colours number ≤ number
  pub differ : (number other : ℕ) → AreNeighbours graph number other → slice_index colours number ≡ slice_index colours other
      → number ≡ other
  pub tight : (number colour : ℕ) → number < size_of graph → colour < slice_index colours number
      → (member other : ℕ) × AreNeighbours graph member other × (slice_index colours member ≡ slice_index colours number)
      × (slice_index colours other ≡ colour)
