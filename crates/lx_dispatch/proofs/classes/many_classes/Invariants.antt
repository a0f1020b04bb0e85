use Rattle.std.proofs.Common.{◌≡◌, drop}
use Rattle.lx_dispatch.specs.Views.{seen_classes}
use Rattle.lx_dispatch.specs.TransitionClasses.{transition_classes, classes_onto}
use Rattle.lx_dispatch.proofs.classes.many_classes.Given as goal

abbrev pub invariant-loop-edge : goal.invariant-loop-edge
invariant-loop-edge l = classes_onto (seen_classes l.classes.keys) (drop l.edge-index l.edges) ≡ transition_classes l.edges
