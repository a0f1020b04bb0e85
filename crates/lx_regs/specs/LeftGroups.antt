-- Groups of accepting states with the same values.
use Rattle.std.specs.Prelude.{◌≡◌, ◌≢◌, ◌≤◌, ◌++◌, ℕ, zero, suc, List, [], length, Vec, map, Option, Some, None, slice_index, slice_index_or}
use Rattle.lx_auto.specs.declared.automaton.Accept.{Accept}
use Rattle.lx_auto.specs.declared.automaton.Auto.{Auto}
use Rattle.lx_auto.specs.declared.automaton.Held.{Held}
use Rattle.lx_auto.specs.Automaton.{state_of}
use Rattle.lx_auto.specs.Points.{values_of}
use Rattle.lx_regs.specs.declared.keys.Key.{Key}
use Rattle.lx_regs.specs.Keys.{held_of}

-- the list of the group with this number, counted from 1; group 0, that of no accepting state, has none
abbrev pub keys_in : (lists : List (List Key)) → (group : ℕ) → List Key
keys_in lists zero = []
keys_in lists (suc group) = slice_index_or lists group []

-- what holds the values of a group
abbrev pub values_in : (lists : List (List Key)) → (group : ℕ) → List Held
values_in lists group = map held_of (keys_in lists group)

-- the group of the accepting state that was left last, or 0 where none was
abbrev pub group_left : (numbers : List ℕ) → (left : Option ℕ) → ℕ
group_left numbers None = 0
group_left numbers (Some state) = slice_index numbers state

-- each state has the number of a group, and its values are those of the group: 0 exactly where it does not accept
pub record AreGroups (auto : Auto) (numbers : List ℕ) (lists : List (List Key)) : Type 0 where
  pub fit : length numbers ≡ length auto.states
  pub values : (state : ℕ) → values_of (state_of auto.states state).accept ≡ values_in lists (slice_index numbers state)
  pub none : (state : ℕ) → (state_of auto.states state).accept ≡ None → slice_index numbers state ≡ 0
  pub some : (state : ℕ) → slice_index numbers state ≡ 0 → (state_of auto.states state).accept ≡ None

-- ---- how they are found

-- the lists of a set of vectors
abbrev pub lists_of : {A : Type 0} → List (Vec Key A) → List (List Key)
lists_of lists = map (λ list. list.items) lists

-- a state that accepts so can have this group
abbrev pub FitsGroup : (lists : List (List Key)) → Option Accept → (group : ℕ) → Type 0
FitsGroup lists None group = group ≡ 0
FitsGroup lists (Some accept) group = (group ≢ 0) × (group ≤ length lists) × (values_in lists group ≡ accept.values)

-- the first lists stay
abbrev pub Widens : (old new : List (List Key)) → Type 0
Widens old new = (rest : List (List Key)) × (new ≡ old ++ rest)
