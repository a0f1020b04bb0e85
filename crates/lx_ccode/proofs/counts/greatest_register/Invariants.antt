use Rattle.std.proofs.Common.{◌≡◌, drop, max}
use Rattle.lx_ccode.specs.Counts.{greatest_of, register_in}
use Rattle.lx_ccode.proofs.counts.greatest_register.Given as goal

abbrev pub invariant-loop-statement : goal.invariant-loop-statement
invariant-loop-statement l = max l.greatest (greatest_of register_in (drop l.statement-index l.statements)) ≡ greatest_of register_in l.statements
