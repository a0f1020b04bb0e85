use Rattle.std.proofs.Common.{◌≡◌, ◌++◌}
use Rattle.lx_ccode.specs.Reading.{names_at}
use Rattle.lx_creader.proofs.sections.names_at.Given as goal

abbrev pub invariant-loop-left : goal.invariant-loop-left
invariant-loop-left l =
    (l.words.items ++ (names_at l.left l.bytes).0 ≡ (names_at l.count l.fn.bytes).0) × ((names_at l.left l.bytes).1 ≡ (names_at l.count l.fn.bytes).1)

abbrev pub decreases-loop-left : goal.decreases-loop-left
decreases-loop-left l = l.left
