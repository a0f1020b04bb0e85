use Rattle.std.proofs.Common.{◌+◌, ◌++◌, ◌∷◌, [], ◌∙◌, Some, ap, drop}
use Rattle.std.proofs.lemmas.List.{map-append}
use Rattle.lx_dispatch.specs.Views.{class_list, seen_classes, seen_stretch, seen_stretches}
use Rattle.lx_dispatch.specs.TransitionClasses.{stretches}
use Rattle.lx_dispatch.proofs.SplitLoops.{stretches-next}
use Rattle.lx_dispatch.proofs.unit_splits.stretches.Goals as goal

pub loop-edge-preserved : goal.loop-edge-preserved
loop-edge-preserved c =
    let classes = seen_classes (class_list c.args.classes.now) in
    let edge = c.edge-item.result in
    let middle = seen_stretches c.push_before.new.tests.items in
    let next = stretches-next classes c.args.edges.now c.loop-edge.edge-index edge c.loop-edge.low (seen_stretches c.loop-edge.found.items)
    middle (seen_stretches c.push.new.self.items) _ c.loop-edge-test.true c.edge-item.is c.in_ok-push_before.ensures
    (ap seen_stretches c.in_ok-push.ensures.items ∙ map-append seen_stretch c.push_before.new.tests.items _
    ∙ ap (λ place. middle ++ record { greatest = edge.hi; class = Some place } ∷ []) c.class_place.ensures) c.loop-edge.invariant in
    ap (λ high. seen_stretches c.push.new.self.items ++ stretches classes (high + 1) (drop (c.loop-edge.edge-index + 1) c.args.edges.now)) c.from-low.ensures ∙ next
