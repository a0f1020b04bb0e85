use Rattle.std.proofs.Common.{◌≡◌, ◌≤◌, drop, max}
use Rattle.lx_ccode.specs.Counts.{greatest_of, groups_in}
use Rattle.lx_ccode.proofs.counts.greatest_group.Given as goal

abbrev pub invariant-loop-statement : goal.invariant-loop-statement
invariant-loop-statement l =
    (max l.greatest (greatest_of groups_in (drop l.statement-index l.statements)) ≡ greatest_of groups_in l.statements) × (l.greatest ≤ 536870912)
