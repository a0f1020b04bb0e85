use Rattle.std.proofs.Common.{◌≡◌, drop}
use Rattle.lx_tnfa.specs.Tnfa.{kinds_for}
use Rattle.lx_tnfa.specs.Making.{seen_tags}
use Rattle.lx_tnfa.proofs.tnfa.Tnfa.tags_of.Given as goal

abbrev pub invariant-loop-known : goal.invariant-loop-known
invariant-loop-known l = kinds_for (seen_tags (drop l.known-index l.known-items)) l.rule ≡ kinds_for (seen_tags l.known-items) l.rule
