use Rattle.std.proofs.Common.{◌≡◌, false, take}
use Rattle.std.specs.List.{list_any}
use Rattle.lx_exprs.specs.Checks.{is_tag_among}
use Rattle.lx_regex.specs.declared.rules.Tag.{Tag}
use Rattle.lx_exprs.proofs.tags.SharedTags.has_any.Given as goal

abbrev pub invariant-loop-tag : goal.invariant-loop-tag
invariant-loop-tag l = list_any (λ (tag : Tag). is_tag_among tag.name l.self) (take l.tag-index l.tags) ≡ false
