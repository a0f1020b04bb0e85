use Rattle.std.proofs.Common.{◌≡◌, ◌<◌, ℕ, length}
use Rattle.lx_auto.specs.Automaton.{state_of}
use Rattle.lx_regs.specs.Unset.{IsStateKept}
use Rattle.lx_regs.proofs.needless_nulls.Source.kept_states.Given as goal

abbrev pub invariant-loop-number : goal.invariant-loop-number
invariant-loop-number l = record {
  count : length l.states ≡ l.number;
  states : (number : ℕ) → number < l.number
      → IsStateKept l.self.rows.now number (state_of l.self.auto.now.states number) (state_of l.states number);
}
