use Rattle.std.proofs.Common.{◌≤◌, ◌≢◌, ℕ, ◌<◌, get_or}
use Rattle.std.specs.Prelude.{Contains}
use Rattle.lx_fill.proofs.fill.max_fill.Given as goal

abbrev pub invariant-loop-number : goal.invariant-loop-number
invariant-loop-number l = record {
  bound : (place : ℕ) → place < l.number-index → get_or l.number-items place 0 ≤ l.most;
  reached : l.most ≢ 0 → Contains l.number-items l.most;
}
