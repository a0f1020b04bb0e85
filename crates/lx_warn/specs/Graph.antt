-- The edges of an automaton by units, without what happens to registers.
use Rattle.std.specs.Prelude.{◌≡◌, ℕ, ◌≤◌, Option, None}
use Rattle.lx_auto.specs.Automaton.{edge_on, state_of}
use Rattle.lx_auto.specs.declared.automaton.Auto.{Auto}
use Rattle.lx_auto.specs.declared.automaton.Edge.{Edge}
use Rattle.lx_base.specs.Spelling.{greatest_unit}
use Rattle.lx_base.specs.declared.settings.Enc.{Enc}

module _ (auto : Auto) where
  -- the edge on a unit out of a state
  abbrev pub edge_from : (state unit : ℕ) → Option Edge
  edge_from state unit = edge_on (state_of auto.states state).edges unit

  -- this unit of the encoding is on no edge out of the state
  abbrev pub IsGap : Enc → (state unit : ℕ) → Type 0
  IsGap enc state unit = (unit ≤ greatest_unit enc) × (edge_from state unit ≡ None)
