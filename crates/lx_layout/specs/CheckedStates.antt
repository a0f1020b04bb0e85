-- For how many units the blocks of a scanner check.
use Rattle.std.specs.Prelude.{◌≡◌, ◌≢◌, ℕ, List, [], ◌∷◌, Some, slice_index}
use Rattle.lx_auto.specs.declared.automaton.Auto.{Auto}
use Rattle.lx_ccode.specs.Machine.{code_at}
use Rattle.lx_ccode.specs.Scanners.{IsOfScanner, StandsIn}
use Rattle.lx_ccode.specs.declared.piece.Piece.{Piece}
use Rattle.lx_ccode.specs.declared.piece.Stmt.{Stmt}
use Rattle.lx_ccode.specs.declared.piece.Stmt.TheVariants.{Need}
use Rattle.lx_fill.specs.Checks.{Leads, Reads, graph_of}
use Rattle.lx_layout.specs.Carries.{HasEdge}

-- for how many units the statements of a block check: those of the first check, or none
abbrev pub needed : List Stmt → ℕ
needed [] = 0
needed (Need units ∷ code) = units
needed (statement ∷ code) = needed code

module _ (piece : Piece) (entry : ℕ) (place : ℕ → ℕ) (auto : Auto) where
  -- the block of each state that has an edge checks for as many units as is said, and no other block of the scanner checks for any
  pub record ChecksAs (check : ℕ → ℕ) : Type 0 where
    pub states : (state : ℕ) (code : List Stmt) → HasEdge auto state → code_at piece.blocks (Some (place state)) ≡ Some code
        → needed code ≡ check state
    pub alone : (block units : ℕ) → IsOfScanner piece.blocks entry block → StandsIn piece.blocks block (Need units)
        → (state : ℕ) × HasEdge auto state × (place state ≡ block) × (check state ≡ units)

  -- Each check of the scanner stands at a state. Some walk from there reads just so many units before it stops or comes to the next state
  -- that the list has a number for. The state is the start, or it stands on a cycle.
  abbrev pub ChecksByWalks : (checks : List ℕ) → Type 0
  ChecksByWalks checks =
      (block units : ℕ) → IsOfScanner piece.blocks entry block → StandsIn piece.blocks block (Need units)
      → (state : ℕ) × HasEdge auto state × (place state ≡ block) × Reads (graph_of auto) (slice_index checks) state units
      × (state ≢ 0 → Leads (graph_of auto) state state)
