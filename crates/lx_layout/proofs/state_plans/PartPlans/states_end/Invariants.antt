use Rattle.std.proofs.Common.{◌≡◌, drop}
use Rattle.lx_layout.specs.LaidParts.{end_from, fall_at}
use Rattle.lx_layout.proofs.state_plans.PartPlans.states_end.Given as goal

abbrev pub invariant-loop-number : goal.invariant-loop-number
invariant-loop-number l = end_from l.self l.number l.end (drop l.number l.self.input.auto.now.states) ≡ fall_at l.self
