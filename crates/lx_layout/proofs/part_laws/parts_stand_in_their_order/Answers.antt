use Rattle.lx_layout.proofs.PartLayouts.PartOrder.{parts_begin, parts_labelled, parts_stand, some_blocks}
use Rattle.lx_layout.proofs.part_laws.parts_stand_in_their_order.Goals as goal

pub returns-clause-codes : goal.returns-clause-codes
returns-clause-codes c first parts blocks same = parts_stand first parts blocks same

pub returns-clause-filled : goal.returns-clause-filled
returns-clause-filled c greatest first parts are = some_blocks greatest 0 first parts are

pub returns-clause-labels : goal.returns-clause-labels
returns-clause-labels c greatest first parts blocks are same = parts_labelled greatest first parts blocks are same

pub returns-clause-begins : goal.returns-clause-begins
returns-clause-begins c greatest first parts blocks are same = parts_begin greatest first parts blocks are same
