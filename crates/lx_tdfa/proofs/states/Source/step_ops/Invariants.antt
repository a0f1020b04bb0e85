use Rattle.std.proofs.Common.{◌≡◌, ◌++◌, drop, map}
use Rattle.lx_tdfa.specs.Making.{seen_step}
use Rattle.lx_tdfa.specs.Registers.{step_ops, widest}
use Rattle.lx_tdfa.proofs.states.Source.step_ops.Given as goal

abbrev pub invariant-loop-index : goal.invariant-loop-index
invariant-loop-index l =
    l.ops ++ step_ops l.self.t.now (widest l.self.t.now.rules) l.is_first l.index (map seen_step (drop l.index l.steps))
    ≡ step_ops l.self.t.now (widest l.self.t.now.rules) l.is_first 0 (map seen_step l.steps)
