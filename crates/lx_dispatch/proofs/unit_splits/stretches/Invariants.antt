use Rattle.std.proofs.Common.{◌≡◌, ◌++◌, drop}
use Rattle.lx_dispatch.specs.Views.{class_list, seen_stretches, seen_classes}
use Rattle.lx_dispatch.specs.TransitionClasses.{stretches}
use Rattle.lx_dispatch.proofs.unit_splits.stretches.Given as goal

abbrev pub invariant-loop-edge : goal.invariant-loop-edge
invariant-loop-edge l =
    seen_stretches l.found.items ++ stretches (seen_classes (class_list l.classes)) l.low (drop l.edge-index l.edges) ≡ stretches (seen_classes (class_list l.classes)) 0 l.edges
