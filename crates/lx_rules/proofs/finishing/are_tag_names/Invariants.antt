use Rattle.std.proofs.Common.{◌↔◌, drop}
use Rattle.std.specs.List.{AllByRecursion}
use Rattle.lx_rules.specs.Blocks.{MayBeTag}
use Rattle.lx_rules.proofs.finishing.are_tag_names.Given as goal

abbrev pub invariant-loop-tag : goal.invariant-loop-tag
invariant-loop-tag l = AllByRecursion (MayBeTag l.format l.names l.has_slash) (drop l.tag-index l.tags) ↔ AllByRecursion (MayBeTag l.format l.names l.has_slash) l.tags
