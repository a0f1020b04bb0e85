use Rattle.lx_layout.proofs.PartLayouts.ClosedParts.{all_end, all_jump}
use Rattle.lx_layout.proofs.part_laws.parts_are_closed.Goals as goal

pub returns-clause-jumps : goal.returns-clause-jumps
returns-clause-jumps c greatest first parts blocks are same = all_jump greatest first parts blocks are same

pub returns-clause-ends : goal.returns-clause-ends
returns-clause-ends c greatest first parts blocks are same = all_end greatest first parts blocks are same
