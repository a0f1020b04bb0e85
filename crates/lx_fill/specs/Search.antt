-- How far a depth-first search has come, and what it chooses.
use Rattle.std.specs.Prelude.{◌≡◌, ◌≢◌, ℕ, ◌+◌, ◌-◌, ◌<◌, ◌≤◌, ◌⊎◌, List, [], length, Bool, true, false, Contains, slice_index, slice_index_or}
use Rattle.std.specs.List.{sum_by}
use Rattle.lx_auto.specs.declared.automaton.Auto.{Auto}
use Rattle.lx_fill.specs.declared.search.Colour.{Colour}
use Rattle.lx_fill.specs.declared.search.Colour.TheVariants.{New, Open, Closed}
use Rattle.lx_fill.specs.declared.search.Search.{Search}
use Rattle.lx_fill.specs.Checks.{Graph, Leads, graph_of}

-- the colour of a state
abbrev pub colour_at : List Colour → ℕ → Colour
colour_at colours state = slice_index_or colours state New

-- whether a state is chosen
abbrev pub chosen_at : List Bool → ℕ → Bool
chosen_at chosen state = slice_index_or chosen state false

-- whether the colour is that of a state that was not met
abbrev pub is_new : Colour → Bool
is_new New = true
is_new Open = false
is_new Closed = false

-- how many new states a state of this colour is
abbrev pub newness : Colour → ℕ
newness New = 1
newness Open = 0
newness Closed = 0

-- the state is the last of the path
abbrev pub IsTop : (path : List ℕ) → (state : ℕ) → Type 0
IsTop path state = (0 < length path) × (slice_index path (length path - 1) ≡ state)

-- a state stands in the list before a place
abbrev pub StandsBelow : (states : List ℕ) → (bound : ℕ) → (state : ℕ) → Type 0
StandsBelow states bound state = (place : ℕ) × (place < bound) × (slice_index states place ≡ state)

-- what holds of the states that get a check, and of the closed states in their order: the start is chosen where it has an
-- edge, each other one stands on a cycle, and an edge from a closed state leads to a chosen one or to one that was closed before
pub record AreChosen (graph : Graph) (count : ℕ) (chosen : List Bool) (order : List ℕ) : Type 0 where
  pub fit : length chosen ≡ count
  pub within : (place : ℕ) → place < length order → slice_index order place < count
  pub earlier : (place next : ℕ) → place < length order → Contains (graph (slice_index order place)) next
      → (chosen_at chosen next ≡ true) ⊎ StandsBelow order place next
  pub cycle : (state : ℕ) → chosen_at chosen state ≡ true → ((state ≡ 0) × (graph 0 ≢ [])) ⊎ Leads graph state state
  pub start : graph 0 ≢ [] → chosen_at chosen 0 ≡ true

-- the same where all states are closed
pub record IsChoice (graph : Graph) (count : ℕ) (chosen : List Bool) (order : List ℕ) : Type 0 where
  pub marks : AreChosen graph count chosen order
  pub few : length order ≤ count
  pub every : (state : ℕ) → state < count → StandsBelow order (length order) state

-- a search of so many states: the path has the open ones, of which each leads to all behind it, and the edges that a state
-- has passed lead to chosen or closed states
pub record IsSearchOf (graph : Graph) (count : ℕ) (colours : List Colour) (passed : List ℕ) (chosen : List Bool) (path order : List ℕ) : Type 0 where
  pub marks : AreChosen graph count chosen order
  pub colours_fit : length colours ≡ count
  pub passed_fit : length passed ≡ count
  pub total : length order + length path + sum_by newness colours ≤ count
  pub within : (place : ℕ) → place < length path → slice_index path place < count
  pub opened : (state : ℕ) → colour_at colours state ≡ Open → StandsBelow path (length path) state
  pub closed : (state : ℕ) → colour_at colours state ≡ Closed → StandsBelow order (length order) state
  pub leads : (place later : ℕ) → place < later → later < length path → Leads graph (slice_index path place) (slice_index path later)
  pub edges : (state place : ℕ) → place < slice_index passed state → place < length (graph state)
      → (chosen_at chosen (slice_index (graph state) place) ≡ true) ⊎ (colour_at colours (slice_index (graph state) place) ≡ Closed)

-- the same in the form of the program
abbrev pub IsSearch : Auto → Search → Type 0
IsSearch auto search = IsSearchOf (graph_of auto) (length auto.states) search.colours.items search.passed.items search.chosen.items search.path.items search.order.items

-- a search that has closed all states
abbrev pub MakesChoice : Auto → Search → Type 0
MakesChoice auto search = IsChoice (graph_of auto) (length auto.states) search.chosen.items search.order.items

-- the search has met the state
abbrev pub HasMet : Search → ℕ → Type 0
HasMet search state = is_new (colour_at search.colours.items state) ≡ false

-- what was met stays met
abbrev pub KeepsMet : (old new : Search) → Type 0
KeepsMet old new = (state : ℕ) → HasMet old state → HasMet new state
