use Rattle.std.proofs.Common.{◌∙◌, ap, length, sym}
use Rattle.lx_dispatch.specs.TransitionClasses.{class_place}
use Rattle.lx_dispatch.specs.Views.{class_list, seen_classes}
use Rattle.lx_dispatch.proofs.EqualClasses.{place_found, place_none}
use Rattle.lx_dispatch.proofs.classes.class_place.Goals as goal

pub returns-in-Some : goal.returns-in-Some
returns-in-Some c =
    place_found (record { edge = c.args.edge }) c.deref-in-Many.result.now.keys c.in-Some.place c.in-Some.ensures.index
    ∙ ap (λ classes. class_place (seen_classes classes.keys) c.args.edge.now) c.deref-in-Many.ensures
    ∙ ap (λ classes. class_place (seen_classes (class_list classes)) c.args.edge.now) (sym c.in-Many.is)

pub returns-in-None : goal.returns-in-None
returns-in-None c =
    c.len.ensures.len ∙ ap (λ classes. length classes.keys) (c.deref-in-None.ensures ∙ sym c.deref-in-Many.ensures)
    ∙ place_none (record { edge = c.args.edge }) c.deref-in-Many.result.now.keys c.in-None.ensures.index
    ∙ ap (λ classes. class_place (seen_classes classes.keys) c.args.edge.now) c.deref-in-Many.ensures
    ∙ ap (λ classes. class_place (seen_classes (class_list classes)) c.args.edge.now) (sym c.in-Many.is)
