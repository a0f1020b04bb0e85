use Rattle.std.proofs.Common.{◌≡◌, drop, max}
use Rattle.lx_step.specs.Sizes.{groups_of_all}
use Rattle.lx_step.proofs.sizes.groups_of_statements.Given as goal

abbrev pub invariant-loop-statement : goal.invariant-loop-statement
invariant-loop-statement l = max l.groups (groups_of_all (drop l.statement-index l.statements)) ≡ groups_of_all l.statements
