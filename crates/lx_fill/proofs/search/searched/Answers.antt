use Rattle.std.proofs.Common.{ap, length, arith}
use Rattle.lx_fill.specs.Checks.{graph_of}
use Rattle.lx_fill.proofs.SearchSteps.{all-closed}
use Rattle.lx_fill.proofs.search.searched.Goals as goal

pub returns : goal.returns
returns c =
    let search = c.loop-root.search in
    all-closed (graph_of c.args.auto.now) (length c.args.auto.now.states) search.colours.items search.passed.items search.chosen.items search.path.items
    search.order.items c.loop-root.invariant.search c.loop-root.invariant.empty (λ state lt.
    let long = ap length c.as_slice-root-end.ensures in c.loop-root.invariant.met state (omega (arith, lt, long, c.loop-root-test.false)))
