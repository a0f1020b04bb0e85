use Rattle.std.proofs.Common.{◌≡◌, ◌+◌, ◌≤◌, [], drop, length}
use Rattle.lx_step.specs.Places.{places_in}
use Rattle.lx_step.proofs.assignments.count_among.Given as goal

abbrev pub invariant-loop-statement : goal.invariant-loop-statement
invariant-loop-statement l = record {
  counted : l.count + length (places_in 0 l.statement-index (drop l.statement-index l.statements) []) ≡ length (places_in 0 0 l.statements []);
  few : l.count ≤ l.statement-index;
}
