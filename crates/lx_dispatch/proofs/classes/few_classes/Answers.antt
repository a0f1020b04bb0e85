use Rattle.std.proofs.Common.{◌∙◌, List, ap, arith, true, false}
use Rattle.std.proofs.lemmas.List.{length-map, map_push}
use Rattle.lx_dispatch.specs.TransitionClasses.{class_place}
use Rattle.lx_dispatch.specs.Views.{seen_classes}
use Rattle.lx_dispatch.specs.declared.classes.TransitionClass.{TransitionClass}
use Rattle.lx_dispatch.proofs.ClassLists.{classes_onto-looked, has_class-none, has_class-some}
use Rattle.lx_dispatch.proofs.classes.few_classes.Goals as goal
use Rattle.lx_dispatch.proofs.classes.few_classes.Goals.{then-len-place_among+in_ok-push, else-len-place_among}

pub loop-edge-preserved : goal.loop-edge-preserved
loop-edge-preserved c =
    let edge = c.edge-item.result in
    let classes = c.loop-edge.classes.items in
    let all = seen_classes classes in
    let place = c.place_among.ensures ∙ ap (λ (l : List TransitionClass). class_place (seen_classes l) edge) c.deref.ensures.value in
    let many = length-map classes (λ (class : TransitionClass). class.edge.now) in
    let count = c.len.ensures in
    let looked = classes_onto-looked c.args.edges.now c.loop-edge.edge-index edge c.loop-edge-test.true c.edge-item.is all
    (seen_classes c.if-len-place_among.classes.items) _ c.loop-edge.invariant in
    elim c.if-len-place_among.branch [
      | then-len-place_among+in_ok-push w ↦
          let past = w.if-len-place_among.true in
          looked false (has_class-none all edge (omega (arith, past, place, many, count)))
          (ap (λ classes. seen_classes classes.items) w.classes-is ∙ ap seen_classes w.in_ok-push.ensures.items
          ∙ map_push (λ (class : TransitionClass). class.edge.now) classes _)
      | else-len-place_among w ↦
          let within = w.if-len-place_among.false in
          looked true (has_class-some all edge (omega (arith, within, place, many, count))) (ap (λ classes. seen_classes classes.items) w.classes-is)
    ]
