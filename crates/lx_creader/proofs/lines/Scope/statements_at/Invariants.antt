use Rattle.std.proofs.Common.{◌≡◌, ◌++◌, map}
use Rattle.std.specs.Prelude.{◌||◌}
use Rattle.lx_ccode.specs.Reading.{statements_at}
use Rattle.lx_creader.specs.Fitted.{fitted_statement}
use Rattle.lx_creader.proofs.lines.Scope.statements_at.Given as goal

abbrev pub invariant-loop-left : goal.invariant-loop-left
invariant-loop-left l =
    (l.statements.items ++ map fitted_statement (statements_at l.left l.self.custom l.self.names.now l.bytes).0 ≡ map fitted_statement (statements_at l.fuel l.self.custom l.self.names.now l.fn.bytes).0)
    × ((l.ctx || (statements_at l.left l.self.custom l.self.names.now l.bytes).1) ≡ (statements_at l.fuel l.self.custom l.self.names.now l.fn.bytes).1)
    × ((statements_at l.left l.self.custom l.self.names.now l.bytes).2 ≡ (statements_at l.fuel l.self.custom l.self.names.now l.fn.bytes).2)

abbrev pub decreases-loop-left : goal.decreases-loop-left
decreases-loop-left l = l.left
