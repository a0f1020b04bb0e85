use Rattle.std.proofs.Common.{◌≡◌, Some, slice_get, take}
use Rattle.lx_tdfa.specs.Edges.{CutSteps}
use Rattle.lx_tdfa.proofs.cuts.gathered_cuts.Given as goal

abbrev pub invariant-loop-reach : goal.invariant-loop-reach
invariant-loop-reach l = CutSteps l.t (take l.reach-index l.reaches) l.cuts.items × (slice_get l.cuts.items 0 ≡ Some 0)
