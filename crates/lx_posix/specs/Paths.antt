-- All paths of an ordered graph that visit no state twice.
use Rattle.std.specs.Prelude.{ℕ, zero, suc, List, [], ◌∷◌, ◌++◌, length}
use Rattle.lx_tnfa.specs.DepthFirst.{Found, all_with_choice, decide_in, successors, unless_in}

-- the paths from states in order, of which the first has this index, by what `paths` lists of one state
abbrev pub paths_each : (paths : ℕ → List Found) → List ℕ → (index : ℕ) → List Found
paths_each paths [] index = []
paths_each paths (state ∷ states) index = all_with_choice index (paths state) ++ paths_each paths states (suc index)

-- the paths of less than so many moves from a state that visit none of `seen`
abbrev pub paths_within : List (List ℕ) → (bound : ℕ) → (seen : List ℕ) → ℕ → List Found
paths_within graph zero seen state = []
paths_within graph (suc bound) seen state =
    unless_in (decide_in seen state)
    (λ u. (record { state = state; choices = [] }) ∷ paths_each (paths_within graph bound (state ∷ seen)) (successors graph state) 0)

-- all paths from some states; no path has more moves than the graph has states
abbrev pub paths_from : List (List ℕ) → (starts : List ℕ) → List Found
paths_from graph starts = paths_each (paths_within graph (suc (length graph)) []) starts 0
