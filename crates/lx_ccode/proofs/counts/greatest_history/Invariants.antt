use Rattle.std.proofs.Common.{◌≡◌, drop, max}
use Rattle.lx_ccode.specs.Counts.{greatest_of, history_in}
use Rattle.lx_ccode.proofs.counts.greatest_history.Given as goal

abbrev pub invariant-loop-statement : goal.invariant-loop-statement
invariant-loop-statement l = max l.greatest (greatest_of history_in (drop l.statement-index l.statements)) ≡ greatest_of history_in l.statements
