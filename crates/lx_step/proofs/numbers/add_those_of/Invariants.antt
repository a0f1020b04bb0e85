use Rattle.std.proofs.Common.{◌≡◌, ◌≤◌, drop}
use Rattle.lx_step.specs.Numbers.{numbers_from}
use Rattle.lx_step.specs.Places.{room_of}
use Rattle.lx_step.proofs.numbers.add_those_of.Given as goal

abbrev pub invariant-loop-statement : goal.invariant-loop-statement
invariant-loop-statement l = record {
  keys : numbers_from l.sort (drop l.statement-index l.statements) l.numbers.keys ≡ numbers_from l.sort l.statements l.initial.numbers.keys;
  room : room_of l.initial.numbers ≤ room_of l.numbers;
}
