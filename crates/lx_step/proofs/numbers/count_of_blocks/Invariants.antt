use Rattle.std.proofs.Common.{◌≡◌, ◌-◌, ◌≤◌}
use Rattle.lx_step.specs.Numbers.{numbers_of}
use Rattle.lx_step.proofs.CountedNumbers.{count_below}
use Rattle.lx_step.proofs.numbers.count_of_blocks.Given as goal

abbrev pub invariant-loop-number : goal.invariant-loop-number
invariant-loop-number l = record {
  counted : l.count ≡ count_below l.from (numbers_of l.sort l.blocks);
  fits : l.from ≤ 4294967296;
  few : l.count ≤ l.from;
}

abbrev pub decreases-loop-number : goal.decreases-loop-number
decreases-loop-number l = 4294967296 - l.from
