use Rattle.std.proofs.Common.{◌≡◌, drop}
use Rattle.lx_tdfa.specs.Steps.{first_ending}
use Rattle.lx_tdfa.proofs.steps.first_ending.Given as goal

abbrev pub invariant-loop-reach : goal.invariant-loop-reach
invariant-loop-reach l = first_ending (drop l.reach-index l.reaches) ≡ first_ending l.reaches
