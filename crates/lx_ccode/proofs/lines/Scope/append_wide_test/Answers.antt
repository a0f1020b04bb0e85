use Rattle.std.proofs.Common.{append_assoc}
use Rattle.lx_ccode.proofs.lines.Scope.append_wide_test.Goals as goal

pub returns : goal.returns
returns c = simp (c.in_ok-append_set.ensures, c.in_ok-append_word.ensures, c.current_unit-current_unit.ensures, append_assoc) at c.append_block.ensures
