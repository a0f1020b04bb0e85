-- The states of a term, taken apart: its beginning, and those of what stands in it.
use Rattle.std.specs.Prelude.{ℕ, ◌+◌, ◌*◌, List, [], ◌∷◌, None}
use Rattle.lx_regex.specs.Automaton.{State, move, moves, leaf, unit_leaf, moves_after, next_member, member_moves, members_table, alternatives_table, copies_table, table}
use Rattle.lx_regex.specs.Term.{Term, empty, class, any_unit, cat, alt, repeat, tag, group, copies}

-- the state at the beginning of a term
abbrev pub first_state : Term → (part : ℕ) → State
first_state empty part = moves (move None [] [] (2 * part + 1) ∷ [])
first_state (class ranges) part = leaf ranges
first_state any_unit part = unit_leaf
first_state (cat members) part = moves (move None [] [] (next_member (part + 1) members (2 * part + 1)) ∷ [])
first_state (alt members) part = moves (member_moves members 0 (part + 1) (λ tags. tags))
first_state (repeat body low high) part = moves (moves_after part body low high 0)
first_state (tag number) part = moves (move None (number ∷ []) [] (2 * part + 1) ∷ [])
first_state (group opening closing body) part = moves (move None (opening ∷ []) [] (2 * (part + 1)) ∷ [])

-- the states of what stands in it
abbrev pub inner_states : Term → (part : ℕ) → List State
inner_states empty part = []
inner_states (class ranges) part = []
inner_states any_unit part = []
inner_states (cat members) part = members_table members (part + 1) (2 * part + 1)
inner_states (alt members) part = alternatives_table members (part + 1) (2 * part + 1)
inner_states (repeat body low high) part =
    copies_table (λ copy ways. table body copy ways) part body low high (copies low high) 0
inner_states (tag number) part = []
inner_states (group opening closing body) part = table body (part + 1) (move None (closing ∷ []) [] (2 * part + 1) ∷ [])
