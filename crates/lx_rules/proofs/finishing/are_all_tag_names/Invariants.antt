use Rattle.std.proofs.Common.{◌↔◌, drop}
use Rattle.std.specs.List.{AllByRecursion, flat_map}
use Rattle.lx_rules.specs.Blocks.{MayBeTag}
use Rattle.lx_rules.proofs.finishing.are_all_tag_names.Given as goal

abbrev pub invariant-loop-segment : goal.invariant-loop-segment
invariant-loop-segment l = AllByRecursion (MayBeTag l.format l.names l.has_slash) (flat_map (λ tags. tags.value) (drop l.segment-index l.segments)) ↔ AllByRecursion (MayBeTag l.format l.names l.has_slash) l.tags
