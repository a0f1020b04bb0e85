use Rattle.std.proofs.Common.{◌≡◌, ◌≤◌, drop, max}
use Rattle.lx_ccode.specs.Counts.{greatest_of, groups_in}
use Rattle.lx_ccode.specs.Statements.{all_statements}
use Rattle.lx_ccode.proofs.counts.groups_of.Given as goal

abbrev pub invariant-loop-block : goal.invariant-loop-block
invariant-loop-block l =
    (max l.greatest (greatest_of groups_in (all_statements (drop l.block-index l.blocks))) ≡ greatest_of groups_in (all_statements l.blocks))
    × (l.greatest ≤ 536870912)
