use Rattle.lx_tdfa.proofs.Tables.SameAutomata.{same_automaton}
use Rattle.lx_tdfa.proofs.laws.same_runs_are_of_one_list.Goals as goal

pub returns : goal.returns
returns c = same_automaton
