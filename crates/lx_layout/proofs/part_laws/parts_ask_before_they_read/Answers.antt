use Rattle.lx_layout.proofs.PartLayouts.AskingParts.{needs_none, reads_need, reads_try, refills_after, states_before, tries_none}
use Rattle.lx_layout.proofs.PartLayouts.LastBlocks.{last_tries_none}
use Rattle.lx_layout.proofs.part_laws.parts_ask_before_they_read.Goals as goal

pub returns-clause-after : goal.returns-clause-after
returns-clause-after c first parts blocks same = refills_after first parts blocks same

pub returns-clause-before : goal.returns-clause-before
returns-clause-before c first parts blocks stores same = states_before first parts blocks stores same

pub returns-clause-no_needs : goal.returns-clause-no_needs
returns-clause-no_needs c first parts blocks none same = needs_none first parts blocks same none

pub returns-clause-no_tries : goal.returns-clause-no_tries
returns-clause-no_tries c first parts blocks none same = tries_none first parts blocks same none

pub returns-clause-needs : goal.returns-clause-needs
returns-clause-needs c greatest first parts blocks are counts same h = reads_need greatest first parts blocks are counts same h

pub returns-clause-tries : goal.returns-clause-tries
returns-clause-tries c first parts blocks tries same h = reads_try first parts blocks tries same h

pub returns-clause-last : goal.returns-clause-last
returns-clause-last c first parts blocks same = last_tries_none first parts blocks same
