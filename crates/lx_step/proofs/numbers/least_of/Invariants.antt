use Rattle.std.proofs.Common.{◌≡◌, drop}
use Rattle.lx_step.specs.Numbers.{least_in_all}
use Rattle.lx_step.proofs.numbers.least_of.Given as goal

abbrev pub invariant-loop-statement : goal.invariant-loop-statement
invariant-loop-statement l = least_in_all l.sort l.from (drop l.statement-index l.statements) l.least ≡ least_in_all l.sort l.from l.statements l.initial.least
