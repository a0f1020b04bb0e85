use Rattle.std.proofs.Common.{◌≡◌, ◌++◌, take}
use Rattle.std.specs.List.{flat_map}
use Rattle.lx_exprs.proofs.tags.SharedTags.with_all.Given as goal

abbrev pub invariant-loop-segment : goal.invariant-loop-segment
invariant-loop-segment l = l.all ≡ l.fn.self ++ flat_map (λ tags. tags.value) (take l.segment-index l.segments)
