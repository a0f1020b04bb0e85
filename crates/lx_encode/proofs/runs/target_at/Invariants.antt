use Rattle.std.proofs.Common.{ℕ, ◌-◌, ◌≤◌, length, take, drop}
use Rattle.lx_encode.specs.Runs.{LeadsTo}
use Rattle.lx_encode.proofs.runs.target_at.Given as goal

abbrev pub invariant-loop-low : goal.invariant-loop-low
invariant-loop-low l = record {
  ordered : l.low ≤ l.high;
  within : l.high ≤ length l.runs;
  not_before : (target : ℕ) → ¬ LeadsTo (take l.low l.runs) l.number target;
  not_after : (target : ℕ) → ¬ LeadsTo (drop l.high l.runs) l.number target;
}

abbrev pub decreases-loop-low : goal.decreases-loop-low
decreases-loop-low l = l.high - l.low
