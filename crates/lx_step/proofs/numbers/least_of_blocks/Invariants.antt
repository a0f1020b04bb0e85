use Rattle.std.proofs.Common.{◌≡◌, drop, None}
use Rattle.lx_ccode.specs.Statements.{all_statements}
use Rattle.lx_step.specs.Numbers.{least_in_all}
use Rattle.lx_step.proofs.numbers.least_of_blocks.Given as goal

abbrev pub invariant-loop-block : goal.invariant-loop-block
invariant-loop-block l = least_in_all l.sort l.from (all_statements (drop l.block-index l.blocks)) l.least ≡ least_in_all l.sort l.from (all_statements l.blocks) None
