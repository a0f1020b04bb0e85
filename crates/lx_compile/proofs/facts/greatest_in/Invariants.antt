use Rattle.std.proofs.Common.{◌≡◌, drop}
use Rattle.lx_compile.specs.Facts.{greatest_in}
use Rattle.lx_compile.proofs.facts.greatest_in.Given as goal

abbrev pub invariant-loop-place : goal.invariant-loop-place
invariant-loop-place l = greatest_in l.most (drop l.place l.lists) ≡ greatest_in l.least l.lists
