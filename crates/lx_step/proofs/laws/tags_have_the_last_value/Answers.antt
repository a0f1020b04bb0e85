use Rattle.lx_step.proofs.LastGiven.{offset_in-given, offset_in-none, history_in-given, history_in-none}
use Rattle.lx_step.proofs.laws.tags_have_the_last_value.Goals as goal

pub returns : goal.returns
returns c = record { offset = offset_in-given; no_offset = offset_in-none; history = history_in-given; no_history = history_in-none }
