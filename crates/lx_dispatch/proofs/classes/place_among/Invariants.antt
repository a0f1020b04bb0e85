use Rattle.std.proofs.Common.{◌≡◌, ◌+◌, drop}
use Rattle.lx_dispatch.specs.Views.{seen_classes}
use Rattle.lx_dispatch.specs.TransitionClasses.{class_place}
use Rattle.lx_dispatch.proofs.classes.place_among.Given as goal

abbrev pub invariant-loop-place : goal.invariant-loop-place
invariant-loop-place l = l.place + class_place (seen_classes (drop l.place l.classes)) l.edge ≡ class_place (seen_classes l.classes) l.edge
