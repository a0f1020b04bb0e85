use Rattle.lx_layout.proofs.PartLayouts.PartStates.{nothing_stored, states_numbered, states_once, states_switch}
use Rattle.lx_layout.proofs.part_laws.parts_number_their_states.Goals as goal

pub returns-clause-numbers : goal.returns-clause-numbers
returns-clause-numbers c greatest first parts blocks are stores same = states_numbered first parts blocks stores same

pub returns-clause-once : goal.returns-clause-once
returns-clause-once c greatest first parts blocks are stores same = states_once first parts blocks stores same

pub returns-clause-switch : goal.returns-clause-switch
returns-clause-switch c greatest first parts blocks are stores same = states_switch first parts blocks stores same

pub returns-clause-none : goal.returns-clause-none
returns-clause-none c greatest first parts blocks are none same = nothing_stored greatest first parts blocks are none same
