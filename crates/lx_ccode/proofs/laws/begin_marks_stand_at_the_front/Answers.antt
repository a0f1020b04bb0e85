use Rattle.lx_ccode.proofs.BeginSections.{HasNoBegin-body, HasNoBegin-piece}
use Rattle.lx_ccode.proofs.laws.begin_marks_stand_at_the_front.Goals as goal

pub returns : goal.returns
returns c = record { scanner = HasNoBegin-piece; empty = HasNoBegin-body }
