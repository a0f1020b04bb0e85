use Rattle.std.proofs.Common.{◌≡◌, drop}
use Rattle.lx_regex.specs.Script.{merge_tags}
use Rattle.lx_tnfa.proofs.tags.merge_tags.Given as goal

abbrev pub invariant-loop-tag : goal.invariant-loop-tag
invariant-loop-tag l = merge_tags (drop l.tag-index l.tags) l.list.items ≡ merge_tags l.tags l.fn.list.items
