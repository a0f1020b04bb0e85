-- The states from which an end can be reached.
use Rattle.std.specs.Prelude.{◌≡◌, ℕ, suc, ◌<◌, ◌↔◌, List, [], ◌∷◌, ◌++◌, map, length, Bool, true, false, Contains, slice_index_or, slice_set, if◌then◌else◌}
use Rattle.lx_encode.specs.Graph.{numbered}
use Rattle.lx_encode.specs.declared.graph.Residual.{Residual}
use Rattle.lx_tnfa.specs.declared.classes.ClassGraph.{ClassGraph}
use Rattle.lx_tnfa.specs.declared.states.Move.{Move}
use Rattle.lx_tnfa.specs.declared.states.State.{State}
use Rattle.lx_tnfa.specs.declared.states.State.TheVariants.{Moves, Class, AnyUnit}

-- the starts of the graph of the class with this number
abbrev pub starts_at : List ClassGraph → ℕ → List Residual
starts_at classes number = slice_index_or (map (λ (class : ClassGraph). class.graph.starts) classes) number []

-- the starts of a leaf
abbrev pub starts_in : List ClassGraph → State → List Residual
starts_in classes (Moves ways) = []
starts_in classes (Class number) = starts_at classes number
starts_in classes AnyUnit = numbered 1 ∷ []

-- a state, if a leaf has a spelling that leads to it
abbrev pub behind_leaf : List Residual → ℕ → List ℕ
behind_leaf [] state = []
behind_leaf (start ∷ starts) state = state ∷ []

-- the states to which a state with this number leads: by its moves in their order, or by a spelling of its leaf
abbrev pub leads_to : List ClassGraph → (number : ℕ) → State → List ℕ
leads_to classes number (Moves ways) = map (λ (way : Move). way.to) ways
leads_to classes number (Class class) = behind_leaf (starts_at classes class) (suc number)
leads_to classes number AnyUnit = suc number ∷ []

-- the state with this number; there is none to which nothing leads
abbrev pub state_of : List State → ℕ → State
state_of states number = slice_index_or states number (Moves [])

-- an end can be reached from the state: it is the last state of all, or leads to one from which an end can be reached
pub data ReachesEnd (classes : List ClassGraph) (states : List State) : ℕ → Type 0 where
  at_end : ReachesEnd classes states 0
  onward : {number : ℕ}
      → (next : ℕ) → Contains (leads_to classes number (state_of states number)) next → ReachesEnd classes states next
      → ReachesEnd classes states number

-- the mark of a state
abbrev pub mark_at : List Bool → ℕ → Bool
mark_at marks number = slice_index_or marks number false

-- the list with this number
abbrev pub list_at : List (List ℕ) → ℕ → List ℕ
list_at lists number = slice_index_or lists number []

-- a state is put on the list of one to which it leads
abbrev pub put_one : List (List ℕ) → (number next : ℕ) → List (List ℕ)
put_one before number next = slice_set before next (list_at before next ++ number ∷ [])

-- and on the lists of all to which it leads
abbrev pub put_each : List (List ℕ) → (number : ℕ) → List ℕ → List (List ℕ)
put_each before number [] = before
put_each before number (next ∷ others) = put_each (put_one before number next) number others

-- the list of each state has those that lead to it
abbrev pub ArePredecessors : List ClassGraph → List State → List (List ℕ) → Type 0
ArePredecessors classes states before =
    (number next : ℕ) → next < length states
    → Contains (list_at before next) number ↔ Contains (leads_to classes number (state_of states number)) next

-- the marks after some states are marked
abbrev pub marks_each : List Bool → List ℕ → List Bool
marks_each marks [] = marks
marks_each marks (number ∷ numbers) = marks_each (if mark_at marks number then marks else slice_set marks number true) numbers

-- those of them that had no mark
abbrev pub waits_each : List Bool → List ℕ → List ℕ
waits_each marks [] = []
waits_each marks (number ∷ numbers) =
    if mark_at marks number then waits_each marks numbers else number ∷ waits_each (slice_set marks number true) numbers

-- the states from which an end can be reached are marked, and no others
abbrev pub AreLive : List ClassGraph → List State → List Bool → Type 0
AreLive classes states marks =
    (number : ℕ) → number < length states → (mark_at marks number ≡ true) ↔ ReachesEnd classes states number
