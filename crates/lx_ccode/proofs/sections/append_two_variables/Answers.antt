use Rattle.std.proofs.Common.{append_assoc}
use Rattle.lx_ccode.proofs.sections.append_two_variables.Goals as goal

pub returns : goal.returns
returns c = simp (c.in_ok-append_word-2.ensures, c.in_ok-append_word.ensures, append_assoc) at c.append_word-3.ensures
