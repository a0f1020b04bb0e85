use Rattle.lx_encode.proofs.Least.{least_here, none_here}
use Rattle.lx_encode.proofs.policies.least_within.Goals as goal

pub returns-then-point-to : goal.returns-then-point-to
returns-then-point-to c =
    least_here c.args.set.now c.loop-range.range-index c.args.from c.args.to c.max-point.result
    c.loop-range-test.true c.requires c.if-from-range.true c.loop-range.invariant c.max-point.ensures c.if-point-to.true

pub returns-else-point-to : goal.returns-else-point-to
returns-else-point-to c =
    none_here c.args.set.now c.loop-range.range-index c.args.from c.args.to c.max-point.result
    c.loop-range-test.true c.requires c.if-from-range.true c.loop-range.invariant c.max-point.ensures c.if-point-to.false
