-- The states through which a search passes.
use Rattle.std.specs.Prelude.{ℕ, Bool, false, Option, Some, None, is_some, if◌then◌else◌}
use Rattle.lx_auto.specs.Automaton.{state_of}
use Rattle.lx_auto.specs.declared.automaton.Auto.{Auto}
use Rattle.lx_search.specs.declared.scope.Scope.{Scope}
use Rattle.lx_search.specs.declared.scope.Scope.TheVariants.{Every, Quiet}
use Rattle.lx_tdfa.specs.KernelStates.{next}

module _ (auto : Auto) where
  -- whether a state accepts
  abbrev pub accepts : (state : ℕ) → Bool
  accepts state = is_some (state_of auto.states state).accept

  -- a state that accepts nothing
  abbrev pub quiet : Option ℕ → Option ℕ
  quiet None = None
  quiet (Some state) = if accepts state then None else Some state

  -- the state behind a unit, if it accepts nothing
  abbrev pub next_quiet : (state unit : ℕ) → Option ℕ
  next_quiet state unit = quiet (next auto state unit)

-- whether a search does not pass through a state
abbrev pub is_outside : Scope → Auto → (state : ℕ) → Bool
is_outside Every auto state = false
is_outside Quiet auto state = accepts auto state

-- the state behind a unit, if a search passes through it
abbrev pub next_in : Scope → Auto → (state unit : ℕ) → Option ℕ
next_in Every auto = next auto
next_in Quiet auto = next_quiet auto
