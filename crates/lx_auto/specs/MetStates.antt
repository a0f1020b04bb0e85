-- The states to which walks come, and how far a search for them has come.
use Rattle.std.specs.Prelude.{◌≡◌, ℕ, ◌+◌, ◌<◌, ◌≤◌, List, length, Bool, true, false, Contains, slice_index, slice_index_or}
use Rattle.std.specs.List.{sum_by}
use Rattle.lx_auto.specs.declared.automaton.Auto.{Auto}
use Rattle.lx_auto.specs.declared.automaton.Edge.{Edge}
use Rattle.lx_auto.specs.Automaton.{state_of}
use Rattle.lx_auto.specs.Points.{IsMet}
use Rattle.lx_auto.specs.declared.walks.Search.{Search}

-- whether a state is marked
abbrev pub is_marked : List Bool → (state : ℕ) → Bool
is_marked marks state = slice_index_or marks state false

-- those states are marked to which some walk comes
pub record AreMet (auto : Auto) (marks : List Bool) : Type 0 where
  pub fit : length marks ≡ length auto.states
  pub sound : (state : ℕ) → is_marked marks state ≡ true → IsMet auto state
  pub complete : (state : ℕ) → IsMet auto state → is_marked marks state ≡ true

-- how many states without a mark this one is
abbrev pub newness : Bool → ℕ
newness true = 0
newness false = 1

-- a state stands in the list before a place
abbrev pub StandsBelow : (states : List ℕ) → (bound : ℕ) → (state : ℕ) → Type 0
StandsBelow states bound state = (place : ℕ) × (place < bound) × (slice_index states place ≡ state)

-- a search: walks come to the states of the list, and each marked state stands there
pub record IsSearchOf (auto : Auto) (marks : List Bool) (order : List ℕ) : Type 0 where
  pub fit : length marks ≡ length auto.states
  pub total : length order + sum_by newness marks ≤ length auto.states
  pub within : (place : ℕ) → place < length order → slice_index order place < length auto.states
  pub met : (place : ℕ) → place < length order → IsMet auto (slice_index order place)
  pub listed : (state : ℕ) → is_marked marks state ≡ true → StandsBelow order (length order) state

-- the same in the form of the program
abbrev pub IsSearch : Auto → Search → Type 0
IsSearch auto search = IsSearchOf auto search.marks.items search.order.items

-- the state is marked
abbrev pub HasMet : Search → (state : ℕ) → Type 0
HasMet search state = is_marked search.marks.items state ≡ true

-- what was marked stays so, and the list only grows
pub record Grows (before after : Search) : Type 0 where
  pub marks : (state : ℕ) → HasMet before state → HasMet after state
  pub long : length before.order.items ≤ length after.order.items
  pub order : (place : ℕ) → place < length before.order.items → slice_index after.order.items place ≡ slice_index before.order.items place

-- the edges of the first so many states of the list lead to marked ones
abbrev pub ArePassed : Auto → Search → (bound : ℕ) → Type 0
ArePassed auto search bound = (place : ℕ) (edge : Edge) → place < bound
    → Contains (state_of auto.states (slice_index search.order.items place)).edges edge → HasMet search edge.to
