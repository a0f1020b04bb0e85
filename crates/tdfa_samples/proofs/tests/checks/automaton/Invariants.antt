use Rattle.std.proofs.Common.{◌≡◌, List, ◌++◌, length}
use Rattle.lx_auto.specs.declared.automaton.State.{State}
use Rattle.lx_auto.specs.Automaton.{AreStates}
use Rattle.tdfa_samples.proofs.tests.checks.automaton.Given as goal

abbrev pub invariant-loop-number : goal.invariant-loop-number
invariant-loop-number l = record {
  count : length l.states ≡ l.number;
  formed : (more : List State) → AreStates 0 0 l.count more → AreStates 0 0 l.count (l.states ++ more);
}
