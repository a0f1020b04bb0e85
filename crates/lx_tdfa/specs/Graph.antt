-- The states of an automaton as an ordered graph: its paths are the walks without units.
use Rattle.std.specs.Prelude.{ℕ, zero, suc, ◌+◌, ◌*◌, List, [], ◌∷◌, ◌++◌, map, None}
use Rattle.lx_regex.specs.Automaton.{Move, State, label, leaf, move, moves, target, unit_leaf}
use Rattle.lx_regex.specs.Script.{Symbol}
use Rattle.lx_regex.specs.Term.{Term, parts}
use Rattle.lx_regex.specs.Walk.{mark}

-- the moves of a state; a leaf has none
abbrev pub moves_of_state : State → List Move
moves_of_state (moves ways) = ways
moves_of_state (leaf ranges) = []
moves_of_state unit_leaf = []

-- the states to which they lead
abbrev pub targets : State → List ℕ
targets (moves ways) = map target ways
targets (leaf ranges) = []
targets unit_leaf = []

-- for each state the states to which its moves lead, in their order
abbrev pub graph_of : List State → List (List ℕ)
graph_of [] = []
graph_of (state ∷ states) = targets state ∷ graph_of states

abbrev pub moves_at : List State → (number : ℕ) → List Move
moves_at [] number = []
moves_at (state ∷ states) zero = moves_of_state state
moves_at (state ∷ states) (suc number) = moves_at states number

abbrev pub nth_move : List Move → (index : ℕ) → Move
nth_move [] index = move None [] [] 0
nth_move (way ∷ ways) zero = way
nth_move (way ∷ ways) (suc index) = nth_move ways index

-- the move with this index of the state with this number
abbrev pub move_at : List State → (number index : ℕ) → Move
move_at states number index = nth_move (moves_at states number) index

-- the symbols of the path that takes moves with these indices, and then the tail
abbrev pub path_symbols : List State → (number : ℕ) → (indices : List ℕ) → (tail : List Symbol) → List Symbol
path_symbols states number [] tail = tail
path_symbols states number (index ∷ indices) tail =
    mark number ∷ (label (move_at states number index) ++ path_symbols states (target (move_at states number index)) indices tail)

-- the state at which it ends
abbrev pub path_end : List State → (number : ℕ) → (indices : List ℕ) → ℕ
path_end states number [] = number
path_end states number (index ∷ indices) = path_end states (target (move_at states number index)) indices

-- the states at which rules begin, before which so many parts stand
abbrev pub starts_behind : (parts_before : ℕ) → List Term → List ℕ
starts_behind parts_before [] = []
starts_behind parts_before (rule ∷ rules) = 2 * (parts_before + 1) ∷ starts_behind (parts_before + parts rule) rules

-- the states at which the rules of a list begin
abbrev pub rule_starts : List Term → List ℕ
rule_starts rules = starts_behind 0 rules
