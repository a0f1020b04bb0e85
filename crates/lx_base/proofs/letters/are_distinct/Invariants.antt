use Rattle.std.proofs.Common.{◌↔◌, drop, map}
use Rattle.lx_base.specs.Names.{AreDistinct}
use Rattle.lx_base.proofs.letters.are_distinct.Given as goal

abbrev pub invariant-loop-place : goal.invariant-loop-place
invariant-loop-place l = AreDistinct (map (λ word. word.now) (drop l.place l.words)) ↔ AreDistinct (map (λ word. word.now) l.words)
