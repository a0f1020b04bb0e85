use Rattle.std.proofs.Common.{◌≡◌, ◌++◌, map}
use Rattle.lx_ccode.specs.Reading.{state_cases_at}
use Rattle.lx_creader.specs.Fitted.{fitted_state}
use Rattle.lx_creader.proofs.sections.state_cases_at.Given as goal

abbrev pub invariant-loop-left : goal.invariant-loop-left
invariant-loop-left l =
    (l.cases.items ++ map fitted_state (state_cases_at l.left l.bytes).0 ≡ map fitted_state (state_cases_at l.fuel l.fn.bytes).0)
    × ((state_cases_at l.left l.bytes).1 ≡ (state_cases_at l.fuel l.fn.bytes).1)

abbrev pub decreases-loop-left : goal.decreases-loop-left
decreases-loop-left l = l.left
