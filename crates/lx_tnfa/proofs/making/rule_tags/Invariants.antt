use Rattle.std.proofs.Common.{◌≡◌, map, take}
use Rattle.lx_regex.specs.declared.rules.Tag.{Tag}
use Rattle.lx_tnfa.proofs.making.rule_tags.Given as goal

abbrev pub invariant-loop-tag : goal.invariant-loop-tag
invariant-loop-tag l = l.many.items ≡ map (λ (tag : Tag). tag.many) (take l.tag-index l.tag-items)
