use Rattle.std.proofs.Common.{◌≡◌, ◌++◌, drop, map}
use Rattle.lx_tdfa.specs.Making.{seen_step}
use Rattle.lx_tdfa.specs.Steps.{places_of}
use Rattle.lx_tdfa.proofs.steps.step_places.Given as goal

abbrev pub invariant-loop-step : goal.invariant-loop-step
invariant-loop-step l = l.places.items ++ places_of (map seen_step (drop l.step-index l.steps)) ≡ places_of (map seen_step l.steps)
