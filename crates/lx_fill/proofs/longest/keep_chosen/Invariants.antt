use Rattle.std.proofs.Common.{◌≡◌, ℕ, ◌<◌, ◌≤◌, length, get_or, if◌then◌else◌}
use Rattle.lx_fill.specs.Search.{chosen_at}
use Rattle.lx_fill.proofs.longest.keep_chosen.Given as goal

abbrev pub invariant-loop-place : goal.invariant-loop-place
invariant-loop-place l = record {
  fit : length l.numbers.items ≡ length l.chosen;
  before : (state : ℕ) → state < l.place → get_or l.numbers.items state 0 ≡ (if chosen_at l.chosen state then get_or l.fn.numbers.items state 0 else 0);
  behind : (state : ℕ) → l.place ≤ state → get_or l.numbers.items state 0 ≡ get_or l.fn.numbers.items state 0;
}
