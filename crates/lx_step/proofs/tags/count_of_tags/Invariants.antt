use Rattle.std.proofs.Common.{◌≡◌, length, take}
use Rattle.lx_step.specs.Tags.{tag_names}
use Rattle.lx_step.proofs.tags.count_of_tags.Given as goal

abbrev pub invariant-loop-place : goal.invariant-loop-place
invariant-loop-place l = l.count ≡ length (tag_names (take l.place l.blocks))
