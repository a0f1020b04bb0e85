use Rattle.std.proofs.Common.{◌≡◌, ◌++◌, map}
use Rattle.lx_ccode.specs.Reading.{switch_cases_at}
use Rattle.lx_creader.specs.Fitted.{fitted_case}
use Rattle.lx_creader.proofs.switches.switch_cases_at.Given as goal

abbrev pub invariant-loop-left : goal.invariant-loop-left
invariant-loop-left l =
    (l.found.items ++ map fitted_case (switch_cases_at l.left l.fuel l.bytes).0 ≡ map fitted_case (switch_cases_at l.cases l.fuel l.fn.bytes).0)
    × ((switch_cases_at l.left l.fuel l.bytes).1 ≡ (switch_cases_at l.cases l.fuel l.fn.bytes).1)

abbrev pub decreases-loop-left : goal.decreases-loop-left
decreases-loop-left l = l.left
