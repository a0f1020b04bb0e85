use Rattle.lx_tnfa.proofs.Construction.HeldStates.{moves_same}
use Rattle.lx_tnfa.proofs.laws.moves_are_those_of_the_automaton.Goals as goal

pub returns : goal.returns
returns c = moves_same
