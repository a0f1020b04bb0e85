use Rattle.std.proofs.Common.{◌≡◌, take, map}
use Rattle.lx_base.specs.Names.{AreDistinct}
use Rattle.lx_creader.proofs.conds.distinct_conds.Given as goal

abbrev pub invariant-loop-case : goal.invariant-loop-case
invariant-loop-case l =
    (l.names ≡ map (λ case. case.cond) (take l.case-index l.cases)) × AreDistinct l.names
