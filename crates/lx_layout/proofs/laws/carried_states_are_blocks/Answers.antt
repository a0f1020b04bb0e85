use Rattle.std.specs.Prelude.{ℕ, List}
use Rattle.std.proofs.Common.{subst, sym}
use Rattle.std.specs.Prelude.{nat_eq}
use Rattle.std.specs.List.{IsDistinct}
use Rattle.lx_layout.proofs.Runs.CarriedStates.{distinct_back, read_states, states_within}
use Rattle.lx_layout.proofs.laws.carried_states_are_blocks.Goals as goal

pub returns-clause-states : goal.returns-clause-states
returns-clause-states c = states_within

pub returns-clause-blocks : goal.returns-clause-blocks
returns-clause-blocks c piece entry endings auto carries blocks all distinct =
    let found = read_states piece entry endings auto carries blocks all in (
      found.0,
      found.1,
      found.2,
      distinct_back piece entry endings auto carries found.0 (subst (λ (l : List ℕ). IsDistinct nat_eq l) (sym found.1) distinct),
    )
