use Rattle.std.proofs.Common.{◌≡◌, ◌++◌, map}
use Rattle.lx_ccode.specs.Reading.{cond_cases_at}
use Rattle.lx_creader.specs.Fitted.{fitted_cond}
use Rattle.lx_creader.proofs.lines.Scope.cond_cases_at.Given as goal

abbrev pub invariant-loop-left : goal.invariant-loop-left
invariant-loop-left l =
    (l.cases.items ++ map fitted_cond (cond_cases_at l.left l.self.names.now l.bytes).0 ≡ map fitted_cond (cond_cases_at l.fuel l.self.names.now l.fn.bytes).0)
    × ((cond_cases_at l.left l.self.names.now l.bytes).1 ≡ (cond_cases_at l.fuel l.self.names.now l.fn.bytes).1)

abbrev pub decreases-loop-left : goal.decreases-loop-left
decreases-loop-left l = l.left
