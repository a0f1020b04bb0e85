-- The last edge is made longer.
use Rattle.lx_tdfa.proofs.Loops.JoinedEdges.{push-joined}
use Rattle.lx_tdfa.proofs.edges.push_edge.Goals as goal

pub returns-in_ok-push-in-Some : goal.returns-in_ok-push-in-Some
returns-in_ok-push-in-Some c =
    push-joined c.in-Some.last c.args.edge (c.goes_on.ensures c.if-goes_on.true) c.args.edges.now.items c.pop.new.self.items
    c.push-then-goes_on.new.self.items c.in-Some.ensures.items c.in_ok-push-in-Some.ensures.items c.requires
