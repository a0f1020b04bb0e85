use Rattle.std.proofs.Common.{◌≡◌, drop, max}
use Rattle.lx_tnfa.specs.Making.{seen_tags}
use Rattle.lx_tnfa.specs.Tnfa.{most_tags}
use Rattle.lx_tnfa.proofs.tnfa.Tnfa.most_tags.Given as goal

abbrev pub invariant-loop-rule : goal.invariant-loop-rule
invariant-loop-rule l = max l.most (most_tags (seen_tags (drop l.rule-index l.rule-items))) ≡ most_tags (seen_tags l.rule-items)
