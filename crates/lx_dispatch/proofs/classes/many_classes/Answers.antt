use Rattle.lx_dispatch.specs.TransitionClasses.{transition_classes}
use Rattle.lx_dispatch.proofs.EqualClasses.{classes_onto-inserted}
use Rattle.lx_dispatch.proofs.classes.many_classes.Goals as goal

pub loop-edge-preserved : goal.loop-edge-preserved
loop-edge-preserved c =
    classes_onto-inserted _ c.args.edges.now c.loop-edge.edge-index c.loop-edge-test.true c.edge-item.is c.loop-edge.classes.keys
    c.insert.new.self.keys (transition_classes c.args.edges.now) c.loop-edge.invariant c.in_ok-insert.ensures.keys
