use Rattle.std.proofs.Common.{◌≡◌}
use Rattle.lx_ccode.specs.Reading.{behind_label_cases}
use Rattle.lx_creader.proofs.openings.behind_label_cases.Given as goal

abbrev pub invariant-loop-left : goal.invariant-loop-left
invariant-loop-left l = behind_label_cases l.left l.bytes ≡ behind_label_cases l.fuel l.fn.bytes

abbrev pub decreases-loop-left : goal.decreases-loop-left
decreases-loop-left l = l.left
