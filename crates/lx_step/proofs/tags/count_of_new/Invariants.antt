use Rattle.std.proofs.Common.{◌≡◌, ◌+◌, ◌≤◌, length, take}
use Rattle.lx_step.specs.Tags.{names_from, tag_names}
use Rattle.lx_step.proofs.tags.count_of_new.Given as goal

abbrev pub invariant-loop-place : goal.invariant-loop-place
invariant-loop-place l = record {
  counted : l.count + length (tag_names l.blocks) ≡ length (names_from (take l.place l.statements) (tag_names l.blocks));
  few : l.count ≤ l.place;
}
