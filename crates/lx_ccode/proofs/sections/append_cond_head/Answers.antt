use Rattle.std.proofs.Common.{append_assoc}
use Rattle.lx_ccode.proofs.sections.append_cond_head.Goals as goal

pub returns : goal.returns
returns c = simp (c.in_ok-append_number.ensures, c.from.ensures, append_assoc) at c.append_word.ensures
