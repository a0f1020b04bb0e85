-- The longest walks to the next check.
use Rattle.std.specs.Prelude.{◌≡◌, ℕ, suc, ◌<◌, ◌≤◌, max, List, [], ◌∷◌, length, Bool, slice_index, if◌then◌else◌}
use Rattle.lx_fill.specs.Checks.{Graph, Reads, Suffices}
use Rattle.lx_fill.specs.Search.{chosen_at}

-- the most units over an edge to this state, by what is known of it where it is not chosen
abbrev pub edge_units : List Bool → (known : List ℕ) → (next : ℕ) → ℕ
edge_units chosen known next = if chosen_at chosen next then 1 else suc (slice_index known next)

-- the most units over edges to these states
abbrev pub most_units : List Bool → (known : List ℕ) → List ℕ → ℕ
most_units chosen known [] = 0
most_units chosen known (next ∷ others) = max (edge_units chosen known next) (most_units chosen known others)

-- a number at each chosen state
abbrev pub mark : List Bool → ℕ → ℕ
mark chosen state = if chosen_at chosen state then 1 else 0

-- so many units suffice from the state to the next chosen one, and some walk reads exactly so many
abbrev pub IsLongest : Graph → List Bool → (state units : ℕ) → Type 0
IsLongest graph chosen state units = Suffices graph (mark chosen) state units × Reads graph (mark chosen) state units

-- the same of each of so many states, which are no fewer
pub record AreLongest (graph : Graph) (count : ℕ) (chosen : List Bool) (known : List ℕ) : Type 0 where
  pub fit : length known ≡ count
  pub few : (state : ℕ) → slice_index known state ≤ count
  pub longest : (state : ℕ) → state < count → IsLongest graph chosen state (slice_index known state)
