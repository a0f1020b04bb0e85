use Rattle.std.proofs.Common.{◌≡◌, ◌++◌, drop, map, filter_map}
use Rattle.lx_tdfa.specs.Making.{seen_step}
use Rattle.lx_tdfa.specs.Steps.{first_steps, indices_from, next_steps, step_indices, step_on}
use Rattle.lx_tdfa.specs.declared.steps.Step as held
use Rattle.lx_tdfa.proofs.steps.next_steps.Given as goal

abbrev pub invariant-loop-index : goal.invariant-loop-index
invariant-loop-index l =
    (map seen_step l.steps.items ++ first_steps l.seen (filter_map (step_on l.t l.unit) (drop l.index l.reaches)) ≡ next_steps l.t l.unit l.reaches)
    × (map (λ (step : held.Step). step.index) l.steps.items ++ indices_from l.t l.unit l.seen l.index (drop l.index l.reaches)
    ≡ step_indices l.t l.unit l.reaches)
