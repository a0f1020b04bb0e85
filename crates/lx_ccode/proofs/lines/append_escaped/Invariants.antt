use Rattle.std.proofs.Common.{◌≡◌, ◌++◌, drop}
use Rattle.lx_ccode.specs.Text.{escaped}
use Rattle.lx_ccode.proofs.lines.append_escaped.Given as goal

abbrev pub invariant-loop-letter : goal.invariant-loop-letter
invariant-loop-letter l = l.text.items ++ escaped (drop l.letter-index l.file) ≡ l.initial.text.items ++ escaped l.file
