use Rattle.std.proofs.Common.{◌≡◌, drop}
use Rattle.lx_regex.specs.Script.{merge_tags}
use Rattle.lx_tnfa.specs.Shapes.{tags_together}
use Rattle.lx_tnfa.proofs.shape.tags_together.Given as goal

abbrev pub invariant-loop-member : goal.invariant-loop-member
invariant-loop-member l = merge_tags (tags_together (drop l.member-index l.members)) l.tags.items ≡ tags_together l.members
