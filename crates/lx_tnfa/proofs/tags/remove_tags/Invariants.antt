use Rattle.std.proofs.Common.{◌≡◌, drop}
use Rattle.lx_tnfa.specs.TagLists.{remove_tags}
use Rattle.lx_tnfa.proofs.tags.remove_tags.Given as goal

abbrev pub invariant-loop-tag : goal.invariant-loop-tag
invariant-loop-tag l = remove_tags (drop l.tag-index l.tags) l.list.items ≡ remove_tags l.tags l.fn.list.items
