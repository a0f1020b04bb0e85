-- For each state the edges that lead to it.
use Rattle.std.specs.Prelude.{◌≡◌, ◌⊎◌, ℕ, ◌<◌, List, [], ◌∷◌, ◌++◌, length, Contains, slice_index_or, slice_set}
use Rattle.lx_auto.specs.declared.automaton.Auto.{Auto}
use Rattle.lx_auto.specs.declared.automaton.Edge.{Edge}
use Rattle.lx_auto.specs.Automaton.{state_of}
use Rattle.lx_regs.specs.declared.arrows.Arrow.{Arrow}

-- the arrows to a state
abbrev pub arrows_to : (lists : List (List Arrow)) → (target : ℕ) → List Arrow
arrows_to lists target = slice_index_or lists target []

-- an arrow more
abbrev pub with_arrow : (lists : List (List Arrow)) → Arrow → List (List Arrow)
with_arrow lists arrow = slice_set lists arrow.edge.now.to (arrows_to lists arrow.edge.now.to ++ arrow ∷ [])

-- the edge of the state has its arrow
abbrev pub HasArrow : (lists : List (List Arrow)) → (state : ℕ) → Edge → Type 0
HasArrow lists state edge = (arrow : Arrow) × Contains (arrows_to lists edge.to) arrow × (arrow.state ≡ state) × (arrow.edge.now ≡ edge)

-- the arrow is that of one of the state's edges, and leads to the target
abbrev pub IsArrow : (state : ℕ) → List Edge → (target : ℕ) → Arrow → Type 0
IsArrow state edges target arrow = (arrow.state ≡ state) × Contains edges arrow.edge.now × (arrow.edge.now.to ≡ target)
    × (arrow.reader ≡ arrow.edge.now.ops)

-- behind what was there stand the arrows of a state's edges
pub record Notes (state : ℕ) (edges : List Edge) (old new : List (List Arrow)) : Type 0 where
  pub fit : length new ≡ length old
  pub kept : (target : ℕ) (arrow : Arrow) → Contains (arrows_to old target) arrow → Contains (arrows_to new target) arrow
  pub sound : (target : ℕ) (arrow : Arrow) → Contains (arrows_to new target) arrow
      → Contains (arrows_to old target) arrow ⊎ IsArrow state edges target arrow
  pub complete : (edge : Edge) → Contains edges edge → HasArrow new state edge

-- the lists have the arrows of the first so many states
pub record AreArrows (auto : Auto) (count : ℕ) (lists : List (List Arrow)) : Type 0 where
  pub fit : length lists ≡ length auto.states
  pub sound : (target : ℕ) (arrow : Arrow) → Contains (arrows_to lists target) arrow
      → (arrow.state < count) × IsArrow arrow.state (state_of auto.states arrow.state).edges target arrow
  pub complete : (state : ℕ) (edge : Edge) → state < count → Contains (state_of auto.states state).edges edge → HasArrow lists state edge
