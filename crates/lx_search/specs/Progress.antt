-- How far a search has come.
use Rattle.std.specs.Prelude.{◌≡◌, ℕ, ◌+◌, ◌<◌, ◌≤◌, List, length, Option, Some, None, Bool, true}
use Rattle.std.specs.List.{sum_by}
use Rattle.lx_auto.specs.MetStates.{is_marked, newness}
use Rattle.lx_auto.specs.declared.automaton.Auto.{Auto}
use Rattle.lx_auto.specs.declared.automaton.Edge.{Edge}
use Rattle.lx_search.specs.Found.{found_at, trace_of}
use Rattle.lx_search.specs.Scopes.{next_in}
use Rattle.lx_search.specs.declared.scope.Scope.{Scope}
use Rattle.lx_search.specs.declared.search.Found.{Found}
use Rattle.lx_search.specs.declared.search.Search.{Search}
use Rattle.lx_tdfa.specs.KernelStates.{next}
use Rattle.lx_tdfa.specs.Searches.{AreApart, ArePassed, IsEarlier, IsTrace}

-- the state stands at some place
abbrev pub Stands : List Found → (state : ℕ) → Type 0
Stands found state = (place : ℕ) × (place < length found) × ((found_at found place).state ≡ state)

-- A search of a graph with so many states, which has passed the units below `bound` at a place, and all at earlier places. The marked
-- states are those that stand in the list, and each stands there once.
pub record IsSearchOf (step : (state unit : ℕ) → Option ℕ) (states : ℕ) (marks : List Bool) (found : List Found) (place bound : ℕ) : Type 0 where
  pub traced : IsTrace step (trace_of found)
  pub passed : ArePassed step (trace_of found) place bound
  pub apart : AreApart step (trace_of found)
  pub earlier : (other : ℕ) → 0 < other → other < length found
      → IsEarlier (found_at found other).parent (found_at found other).unit place bound
  pub fit : length marks ≡ states
  pub total : length found + sum_by newness marks ≤ states
  pub within : (other : ℕ) → other < length found → (found_at found other).state < states
  pub listed : (state : ℕ) → is_marked marks state ≡ true → Stands found state
  pub marked : (other : ℕ) → other < length found → is_marked marks (found_at found other).state ≡ true

-- the same in the form of the program
abbrev pub IsSearch : Scope → Auto → Search → (place bound : ℕ) → Type 0
IsSearch scope auto search place bound =
    IsSearchOf (next_in scope auto) (length auto.states) search.marks.items search.found.items place bound

-- the search has come to an edge of the state at a place: what was not passed there is on no edge, or on this one or a later one
pub record IsAtEdge (scope : Scope) (auto : Auto) (search : Search) (place : ℕ) (edge : Edge) : Type 0 where
  pub bound : ℕ
  pub so_far : IsSearch scope auto search place bound
  pub within : place < length search.found.items
  pub low : bound ≤ edge.lo
  pub high : edge.lo ≤ edge.hi
  pub target : edge.to < length auto.states
  pub below : (unit : ℕ) → bound ≤ unit → unit < edge.lo → next auto (found_at search.found.items place).state unit ≡ None
  pub on : (unit : ℕ) → edge.lo ≤ unit → unit ≤ edge.hi → next auto (found_at search.found.items place).state unit ≡ Some edge.to

-- what was found stays so
pub record Extends (before after : Search) : Type 0 where
  pub long : length before.found.items ≤ length after.found.items
  pub same : (place : ℕ) → place < length before.found.items → found_at after.found.items place ≡ found_at before.found.items place
