use Rattle.std.proofs.Common.{◌≡◌, ◌++◌, take}
use Rattle.lx_exprs.proofs.tags.TagNames.push_all.Given as goal

abbrev pub invariant-loop-tag : goal.invariant-loop-tag
invariant-loop-tag l = l.self ≡ l.initial.self ++ take l.tag-index l.more
