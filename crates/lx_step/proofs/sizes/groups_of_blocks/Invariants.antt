use Rattle.std.proofs.Common.{◌≡◌, drop, max}
use Rattle.lx_ccode.specs.Statements.{all_statements}
use Rattle.lx_step.specs.Sizes.{groups_of_all}
use Rattle.lx_step.proofs.sizes.groups_of_blocks.Given as goal

abbrev pub invariant-loop-block : goal.invariant-loop-block
invariant-loop-block l = max l.groups (groups_of_all (all_statements (drop l.block-index l.blocks))) ≡ groups_of_all (all_statements l.blocks)
