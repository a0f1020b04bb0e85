use Rattle.std.proofs.Common.{◌≡◌, ◌≤◌, drop}
use Rattle.lx_ccode.specs.Statements.{all_statements}
use Rattle.lx_step.specs.Numbers.{numbers_from}
use Rattle.lx_step.specs.Places.{room_of}
use Rattle.lx_step.proofs.numbers.add_those_of_blocks.Given as goal

abbrev pub invariant-loop-block : goal.invariant-loop-block
invariant-loop-block l = record {
  keys : numbers_from l.sort (all_statements (drop l.block-index l.blocks)) l.numbers.keys ≡ numbers_from l.sort (all_statements l.blocks) l.initial.numbers.keys;
  room : room_of l.initial.numbers ≤ room_of l.numbers;
}
