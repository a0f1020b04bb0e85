use Rattle.std.proofs.Common.{◌≡◌, false, take}
use Rattle.std.specs.List.{flat_map, list_any}
use Rattle.lx_exprs.specs.Checks.{is_tag_among}
use Rattle.lx_regex.specs.declared.rules.Tag.{Tag}
use Rattle.lx_exprs.proofs.tags.SeenTags.is_apart.Given as goal

abbrev pub invariant-loop-segment : goal.invariant-loop-segment
invariant-loop-segment l = list_any (λ (tag : Tag). is_tag_among tag.name l.tags) (flat_map (λ tags. tags.value) (take l.segment-index l.segments)) ≡ false
