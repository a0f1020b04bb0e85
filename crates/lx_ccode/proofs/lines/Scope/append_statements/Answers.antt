use Rattle.std.proofs.Common.{[], refl}
use Rattle.lx_ccode.specs.Text.{statement_then, statements_then}
use Rattle.lx_ccode.specs.Wording.{scope_wording}
use Rattle.lx_ccode.proofs.Tails.{appended_next, statement_then-nil}
use Rattle.lx_ccode.proofs.lines.Scope.append_statements.Goals as goal

pub loop-statement-preserved : goal.loop-statement-preserved
loop-statement-preserved c =
    appended_next (statement_then (scope_wording c.args.self.now))
    (λ statements. statements_then (scope_wording c.args.self.now) statements [])
    c.args.statements.now c.loop-statement.statement-index c.statement-item.result _ _ _
    (statement_then-nil (scope_wording c.args.self.now) c.statement-item.result) (λ statements. refl)
    c.loop-statement-test.true c.statement-item.is c.in_ok-append_statement.ensures c.loop-statement.invariant
