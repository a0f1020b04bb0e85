use Rattle.std.proofs.Common.{◌≡◌, ◌++◌, map}
use Rattle.lx_ccode.specs.Reading.{cells_at}
use Rattle.lx_creader.specs.Fitted.{tiny}
use Rattle.lx_creader.proofs.sections.cells_at.Given as goal

abbrev pub invariant-loop-left : goal.invariant-loop-left
invariant-loop-left l =
    (l.cells.items ++ map tiny (cells_at l.left l.bytes).0 ≡ map tiny (cells_at l.fuel l.fn.bytes).0) × ((cells_at l.left l.bytes).1 ≡ (cells_at l.fuel l.fn.bytes).1)

abbrev pub decreases-loop-left : goal.decreases-loop-left
decreases-loop-left l = l.left
