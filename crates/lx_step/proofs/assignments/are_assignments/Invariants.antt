use Rattle.std.specs.List.{AllByRecursion}
use Rattle.std.proofs.Common.{drop, ◌↔◌}
use Rattle.lx_step.specs.Saved.{IsAssignmentAt}
use Rattle.lx_step.proofs.assignments.are_assignments.Given as goal

abbrev pub invariant-loop-place : goal.invariant-loop-place
invariant-loop-place l = AllByRecursion (IsAssignmentAt l.blocks) (drop l.place-index l.places) ↔ AllByRecursion (IsAssignmentAt l.blocks) l.places
