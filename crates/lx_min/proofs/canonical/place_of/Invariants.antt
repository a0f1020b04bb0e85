use Rattle.std.proofs.Common.{◌≡◌, ◌≤◌, ◌+◌, ◌-◌, drop, length}
use Rattle.std.specs.List.{prefix_len}
use Rattle.lx_min.specs.Canonical.{comes_before}
use Rattle.lx_min.proofs.canonical.place_of.Given as goal

abbrev pub invariant-loop-place : goal.invariant-loop-place
invariant-loop-place l = record {
  within : l.place ≤ length l.targets;
  before : l.place + prefix_len (λ other. comes_before other l.held) (drop l.place l.targets)
      ≡ prefix_len (λ other. comes_before other l.held) l.targets;
}

abbrev pub decreases-loop-place : goal.decreases-loop-place
decreases-loop-place l = length l.targets - l.place
