use Rattle.std.proofs.Common.{◌≡◌, ◌++◌, take}
use Rattle.std.specs.List.{flat_map}
use Rattle.lx_exprs.proofs.tags.SharedTags.append.Given as goal

abbrev pub invariant-loop-segment : goal.invariant-loop-segment
invariant-loop-segment l = l.self ≡ l.initial.self ++ flat_map (λ tags. tags.value) (take l.segment-index l.segments)
