use Rattle.std.proofs.Common.{◌≡◌, ◌<◌, ◌≤◌, ℕ, length, get_or}
use Rattle.lx_auto.specs.Automaton.{state_of}
use Rattle.lx_regs.specs.LeftGroups.{FitsGroup, lists_of}
use Rattle.lx_regs.proofs.left_groups.groups_of.Given as goal

abbrev pub invariant-loop-state : goal.invariant-loop-state
invariant-loop-state l = record {
  count : length l.numbers.items ≡ l.state-index;
  few : length l.lists.keys ≤ l.state-index;
  fits : (state : ℕ) → state < l.state-index
      → FitsGroup (lists_of l.lists.keys) (state_of l.auto'.states state).accept (get_or l.numbers.items state 0);
}
