use Rattle.lx_tnfa.proofs.Leaves.LeafNumbering.{automaton_numbers}
use Rattle.lx_tnfa.proofs.laws.leaves_are_read_as_places.Goals as goal

pub returns : goal.returns
returns c = automaton_numbers
