use Rattle.std.proofs.Common.{◌≡◌, ◌++◌, map}
use Rattle.lx_ccode.specs.Reading.{units_at}
use Rattle.lx_creader.specs.Fitted.{tiny}
use Rattle.lx_creader.proofs.switches.units_at.Given as goal

abbrev pub invariant-loop-left : goal.invariant-loop-left
invariant-loop-left l =
    (l.units.items ++ map tiny (units_at l.left l.bytes).0 ≡ map tiny (units_at l.fuel l.fn.bytes).0) × ((units_at l.left l.bytes).1 ≡ (units_at l.fuel l.fn.bytes).1)

abbrev pub decreases-loop-left : goal.decreases-loop-left
decreases-loop-left l = l.left
