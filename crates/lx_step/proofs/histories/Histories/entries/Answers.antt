use Rattle.lx_step.proofs.Nodes.{depth-before, below-before, split-before}
use Rattle.lx_step.proofs.histories.Histories.entries.Goals as goal

pub loop-last-smaller : goal.loop-last-smaller
loop-last-smaller c = depth-before c.self.inside.nodes.items c.in-Some.place c.loop-last.last c.index-node.result.now c.self.invariant.in_order c.in-Some.is c.loop-last.invariant.below c.index-node.ensures

pub loop-last-preserved : goal.loop-last-preserved
loop-last-preserved c = record {
  below = below-before c.self.inside.nodes.items c.in-Some.place c.loop-last.last c.index-node.result.now c.self.invariant.in_order c.in-Some.is c.loop-last.invariant.below c.index-node.ensures;
  split = rw c.in_ok-push.ensures.items (split-before c.self.inside.nodes.items c.in-Some.place c.loop-last.last c.index-node.result.now c.loop-last.entries.items _ c.self.invariant.in_order c.in-Some.is c.loop-last.invariant.below c.index-node.ensures c.loop-last.invariant.split);
}
