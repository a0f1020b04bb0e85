use Rattle.std.proofs.Common.{◌≡◌, ◌≤◌, drop, max}
use Rattle.lx_compile.specs.Facts.{groups_of}
use Rattle.lx_compile.proofs.facts.groups_of.Given as goal

abbrev pub invariant-loop-one : goal.invariant-loop-one
invariant-loop-one l = record { most : max l.most (groups_of (drop l.one-index l.made)) ≡ groups_of l.made; positive : 1 ≤ l.most }
