use Rattle.std.proofs.Common.{◌≡◌, drop, max}
use Rattle.lx_compile.specs.Made.{groups_in_rules}
use Rattle.lx_compile.proofs.making.groups_in_rules.Given as goal

abbrev pub invariant-loop-rule : goal.invariant-loop-rule
invariant-loop-rule l = max l.most (groups_in_rules (drop l.rule-index l.rules)) ≡ groups_in_rules l.rules
