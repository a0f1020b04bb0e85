-- The paths in an ordered graph that visit no state twice, and how many states are not visited yet.
use Rattle.std.specs.Prelude.{◌≡◌, ℕ, zero, suc, ◌+◌, ◌⊎◌, List, [], ◌∷◌}
use Rattle.lx_tnfa.specs.DepthFirst.{IsIn, decide_in, successors}

-- c is at index w of the list, whose first index is i
abbrev pub IsAt : ℕ → List ℕ → ℕ → ℕ → Type 0
IsAt i [] w c = ⊥
IsAt i (x ∷ xs) w c = ((i ≡ w) × (x ≡ c)) ⊎ IsAt (suc i) xs w c

-- a path from s to t with choices ws, that visits no state twice and none of `avoided`
abbrev pub SimplePath : List (List ℕ) → List ℕ → ℕ → List ℕ → ℕ → Type 0
SimplePath graph avoided s [] t = (IsIn avoided s → ⊥) × (s ≡ t)
SimplePath graph avoided s (w ∷ ws) t = (IsIn avoided s → ⊥) × ((c : ℕ) × IsAt 0 (successors graph s) w c × SimplePath graph (s ∷ avoided) c ws t)

-- such a path from one of the states cs: first the index of the state, counted from i, then the choices
abbrev pub SimplePathFrom : List (List ℕ) → List ℕ → ℕ → List ℕ → List ℕ → ℕ → Type 0
SimplePathFrom graph avoided i cs [] t = ⊥
SimplePathFrom graph avoided i cs (w ∷ ws) t = (c : ℕ) × IsAt i cs w c × SimplePath graph avoided c ws t

-- how many of the states below n are not in `avoided`
abbrev pub counted : {A : Type 0} → Dec A → ℕ
counted (yes h) = 0
counted (no h) = 1

abbrev pub unvisited : List ℕ → ℕ → ℕ
unvisited avoided zero = 0
unvisited avoided (suc n) = counted (decide_in avoided n) + unvisited avoided n
