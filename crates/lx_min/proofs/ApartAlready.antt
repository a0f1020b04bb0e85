-- Automata of which no states are to be merged.
use Rattle.std.proofs.Common.{◌≡◌, ℕ, ◌<◌, Bool, true, false, List, length, refl, Contains, subst, arith}
use Rattle.std.proofs.lemmas.List.Elements.{Contains-get_or}
use Rattle.lx_auto.specs.declared.automaton.Auto.{Auto}
use Rattle.lx_auto.specs.MetStates.{AreMet, is_marked}
use Rattle.lx_auto.specs.Points.{IsMet}

-- where no state is unmarked, walks come to all
module _ (auto : Auto) (marks : List Bool) (met : AreMet auto marks) (all : Contains marks false → ⊥) where
  met-by : (state : ℕ) (mark : Bool) → is_marked marks state ≡ mark → state < length marks → IsMet auto state
  met-by state true is within = met.sound state is
  met-by state false is within = absurd (all (subst (Contains marks) is (Contains-get_or marks state false within)))

  pub all-met : (state : ℕ) → state < length auto.states → IsMet auto state
  all-met state within = met-by state (is_marked marks state) refl (let fit = met.fit in omega (arith, within, fit))
