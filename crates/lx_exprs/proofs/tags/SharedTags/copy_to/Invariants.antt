use Rattle.std.proofs.Common.{◌≡◌, ◌++◌, take}
use Rattle.std.specs.List.{flat_map}
use Rattle.lx_exprs.proofs.tags.SharedTags.copy_to.Given as goal

abbrev pub invariant-loop-segment : goal.invariant-loop-segment
invariant-loop-segment l = l.tags ≡ l.initial.tags ++ flat_map (λ tags. tags.value) (take l.segment-index l.segments)
