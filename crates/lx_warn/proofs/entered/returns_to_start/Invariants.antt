use Rattle.std.proofs.Common.{ℕ, ◌<◌}
use Rattle.lx_warn.specs.Entered.{LeadsToStart}
use Rattle.lx_warn.proofs.entered.returns_to_start.Given as goal

abbrev pub invariant-loop-state : goal.invariant-loop-state
invariant-loop-state l = (state : ℕ) → state < l.state → LeadsToStart l.auto' l.marks state → ⊥
