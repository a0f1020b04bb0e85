use Rattle.std.proofs.Common.{◌≡◌, false, length}
use Rattle.lx_ccode.specs.Reading.{file_at}
use Rattle.lx_creader.proofs.marks.behind_file.Given as goal

abbrev pub invariant-loop-letter : goal.invariant-loop-letter
invariant-loop-letter l = (file_at l.after_slash l.rest).1 ≡ (file_at false l.bytes).1

abbrev pub decreases-loop-letter : goal.decreases-loop-letter
decreases-loop-letter l = length l.rest
