use Rattle.lx_ccode.proofs.BeginMarks.{HasNoBegin-ends}
use Rattle.lx_ccode.proofs.laws.marks_end_before_other_bytes.Goals as goal

pub returns : goal.returns
returns c = HasNoBegin-ends
