use Rattle.lx_posix.proofs.Lists.ProgramLists.{place_depth}
use Rattle.lx_posix.proofs.Searches.StateDepths.{are_depths}
use Rattle.lx_posix.proofs.laws.states_have_depths.Goals as goal

pub returns-clause-states : goal.returns-clause-states
returns-clause-states c rules = are_depths rules

pub returns-clause-places : goal.returns-clause-places
returns-clause-places c enc patterns tnfa word index entry of fits at low = place_depth enc patterns tnfa of fits word index entry at low
