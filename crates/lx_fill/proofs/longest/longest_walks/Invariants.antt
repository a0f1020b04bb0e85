use Rattle.std.proofs.Common.{◌≡◌, ℕ, ◌<◌, ◌≤◌, length, get_or}
use Rattle.lx_fill.specs.Checks.{graph_of}
use Rattle.lx_fill.specs.Longest.{IsLongest}
use Rattle.lx_fill.proofs.longest.longest_walks.Given as goal

abbrev pub invariant-loop-state : goal.invariant-loop-state
invariant-loop-state l = record {
  fit : length l.known.items ≡ length l.auto'.states;
  small : (state : ℕ) → get_or l.known.items state 0 ≤ l.state-index;
  longest : (place : ℕ) → place < l.state-index
      → IsLongest (graph_of l.auto') l.chosen (get_or l.order place 0) (get_or l.known.items (get_or l.order place 0) 0);
}
