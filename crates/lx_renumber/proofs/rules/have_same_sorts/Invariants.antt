use Rattle.std.proofs.Common.{◌≡◌, map, take}
use Rattle.lx_regex.specs.declared.rules.Tag.{Tag}
use Rattle.lx_renumber.proofs.rules.have_same_sorts.Given as goal

abbrev pub invariant-loop-place : goal.invariant-loop-place
invariant-loop-place l = map (λ (tag : Tag). tag.many) (take l.place l.tags) ≡ map (λ (tag : Tag). tag.many) (take l.place l.before)
