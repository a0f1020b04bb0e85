-- Checks before refills: numbers that say how many units a walk reads before it stops or meets the next number.
use Rattle.std.specs.Prelude.{◌≡◌, ◌≢◌, ℕ, suc, ◌≤◌, List, [], map, length, Contains, slice_index}
use Rattle.lx_auto.specs.declared.automaton.Auto.{Auto}
use Rattle.lx_auto.specs.declared.automaton.Edge.{Edge}
use Rattle.lx_auto.specs.Automaton.{state_of}

-- for each state those to which its edges lead
abbrev pub Graph : Type 0
Graph = ℕ → List ℕ

-- the graph of an automaton
abbrev pub graph_of : Auto → Graph
graph_of auto state = map (λ (edge : Edge). edge.to) (state_of auto.states state).edges

-- a walk leads from one state to another by one edge or more
pub data Leads (graph : Graph) : ℕ → ℕ → Type 0 where
  by_edge : (state next : ℕ) → Contains (graph state) next → Leads graph state next
  onward : (state last next : ℕ) → Leads graph state last → Contains (graph last) next → Leads graph state next

-- the same, where none of the states behind the first one has a number
pub data LeadsUnchecked (graph : Graph) (number : ℕ → ℕ) : ℕ → ℕ → Type 0 where
  unchecked_edge : (state next : ℕ) → Contains (graph state) next → number next ≡ 0 → LeadsUnchecked graph number state next
  unchecked_onward : (state last next : ℕ) → LeadsUnchecked graph number state last → Contains (graph last) next → number next ≡ 0
      → LeadsUnchecked graph number state next

-- some walk from the state reads so many units before it stops or meets the next number. A state that has an edge reads a
-- unit, whether or not the unit fits.
pub data Reads (graph : Graph) (number : ℕ → ℕ) : ℕ → ℕ → Type 0 where
  ends : (state : ℕ) → graph state ≡ [] → Reads graph number state 0
  stops : (state next : ℕ) → Contains (graph state) next → Reads graph number state 1
  meets : (state next : ℕ) → Contains (graph state) next → number next ≢ 0 → Reads graph number state 1
  goes_on : (state next units : ℕ) → Contains (graph state) next → number next ≡ 0 → Reads graph number next units
      → Reads graph number state (suc units)

-- so many units suffice from the state: no walk reads more before it stops or meets the next number
abbrev pub Suffices : Graph → (number : ℕ → ℕ) → (state units : ℕ) → Type 0
Suffices graph number state units = (others : ℕ) → Reads graph number state others → others ≤ units

-- the list has for each state its number, or 0 where it has none: the start has one where it has an edge, and each other one
-- stands on a cycle; from a state with a number so many units suffice, and some walk reads exactly so many, which are no more than there
-- are states
pub record AreChecks (auto : Auto) (checks : List ℕ) : Type 0 where
  pub each_state : length checks ≡ length auto.states
  pub few : (state : ℕ) → slice_index checks state ≤ length auto.states
  pub start : graph_of auto 0 ≢ [] → slice_index checks 0 ≢ 0
  pub cycle : (state : ℕ) → slice_index checks state ≢ 0 → state ≢ 0 → Leads (graph_of auto) state state
  pub most : (state : ℕ) → slice_index checks state ≢ 0 → Suffices (graph_of auto) (slice_index checks) state (slice_index checks state)
  pub exact : (state : ℕ) → slice_index checks state ≢ 0 → Reads (graph_of auto) (slice_index checks) state (slice_index checks state)
