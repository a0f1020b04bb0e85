use Rattle.std.proofs.Common.{◌≡◌, ◌++◌, [], drop}
use Rattle.lx_ccode.specs.Text.{statements_then}
use Rattle.lx_ccode.specs.Wording.{scope_wording}
use Rattle.lx_ccode.proofs.lines.Scope.append_statements.Given as goal

abbrev pub invariant-loop-statement : goal.invariant-loop-statement
invariant-loop-statement l =
    l.text.items ++ statements_then (scope_wording l.self) (drop l.statement-index l.statements) []
    ≡ l.initial.text.items ++ statements_then (scope_wording l.self) l.statements []
