use Rattle.std.proofs.Common.{arith}
use Rattle.lx_search.proofs.EdgeFronts.{edge-below}
use Rattle.lx_warn.proofs.gaps.least_free.Goals as goal

pub returns-then-least-from-clause-free : goal.returns-then-least-from-clause-free
returns-then-least-from-clause-free c =
    edge-below c.args.edges.now c.loop-edge.edge-index c.loop-edge.least c.edge-item.result c.loop-edge.invariant.passed c.loop-edge-test.true
    c.edge-item.is c.loop-edge.least (omega arith) (omega arith)
