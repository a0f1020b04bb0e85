use Rattle.lx_posix.proofs.CodeStarts.SmallDepths.{place_depth_less, rank_depth_small, state_depth_small}
use Rattle.lx_posix.proofs.laws.depths_are_small.Goals as goal

pub returns-clause-states : goal.returns-clause-states
returns-clause-states c rules state = state_depth_small rules state

pub returns-clause-places : goal.returns-clause-places
returns-clause-places c enc patterns tnfa word index ranked of fits at = rank_depth_small enc patterns tnfa of fits word index ranked at

pub returns-clause-width : goal.returns-clause-width
returns-clause-width c enc patterns tnfa word place of fits = place_depth_less enc patterns tnfa of fits word place
