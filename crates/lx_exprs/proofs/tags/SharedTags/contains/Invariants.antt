use Rattle.std.proofs.Common.{◌≡◌, false, take}
use Rattle.std.specs.List.{flat_map}
use Rattle.lx_exprs.specs.Checks.{is_tag_among}
use Rattle.lx_exprs.proofs.tags.SharedTags.contains.Given as goal

abbrev pub invariant-loop-segment : goal.invariant-loop-segment
invariant-loop-segment l = is_tag_among l.name (flat_map (λ tags. tags.value) (take l.segment-index l.segments)) ≡ false
