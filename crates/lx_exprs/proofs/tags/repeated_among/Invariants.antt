use Rattle.std.proofs.Common.{◌≡◌, drop}
use Rattle.lx_exprs.specs.Checks.{repeated_tag}
use Rattle.lx_exprs.proofs.tags.repeated_among.Given as goal

abbrev pub invariant-loop-tag : goal.invariant-loop-tag
invariant-loop-tag l = repeated_tag l.at l.tags l.seen ≡ repeated_tag l.at (drop l.tag-index l.tags) l.seen
