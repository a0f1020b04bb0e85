use Rattle.std.proofs.Common.{◌≡◌, ℕ, take}
use Rattle.lx_layout.specs.NumberIndexes.{noted_place}
use Rattle.lx_layout.specs.RuleEnds.{end_place}
use Rattle.lx_layout.proofs.rule_ends.index_of.Given as goal

abbrev pub invariant-loop-place : goal.invariant-loop-place
invariant-loop-place l = (number : ℕ) → noted_place l.places number ≡ end_place (take l.place l.ends) number
