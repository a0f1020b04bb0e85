use Rattle.std.proofs.Common.{◌≡◌, drop}
use Rattle.std.specs.List.{list_any}
use Rattle.lx_ccode.specs.Statements.{is_leave}
use Rattle.lx_ccode.proofs.kinds.any_is_leave.Given as goal

abbrev pub invariant-loop-statement : goal.invariant-loop-statement
invariant-loop-statement l = list_any is_leave (drop l.statement-index l.statements) ≡ list_any is_leave l.statements
