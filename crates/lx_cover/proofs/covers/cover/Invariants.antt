use Rattle.std.proofs.Common.{◌-◌}
use Rattle.lx_cover.proofs.CoverPasses.{IsCovered}
use Rattle.lx_cover.proofs.covers.cover.Given as goal

abbrev pub invariant-loop-number : goal.invariant-loop-number
invariant-loop-number l = IsCovered l.t l.covering l.number

abbrev pub decreases-loop-number : goal.decreases-loop-number
decreases-loop-number l = 1048577 - l.number
