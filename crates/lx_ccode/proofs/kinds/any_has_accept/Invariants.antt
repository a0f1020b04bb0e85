use Rattle.std.proofs.Common.{◌≡◌, drop}
use Rattle.std.specs.List.{list_any}
use Rattle.lx_ccode.specs.Statements.{has_accept}
use Rattle.lx_ccode.proofs.kinds.any_has_accept.Given as goal

abbrev pub invariant-loop-statement : goal.invariant-loop-statement
invariant-loop-statement l = list_any has_accept (drop l.statement-index l.statements) ≡ list_any has_accept l.statements
