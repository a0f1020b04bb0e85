use Rattle.std.proofs.Common.{append_assoc}
use Rattle.lx_ccode.proofs.lines.Scope.append_try.Goals as goal

pub returns : goal.returns
returns c = simp (c.in_ok-append_word.ensures, c.refill.ensures, append_assoc) at c.append_block.ensures
