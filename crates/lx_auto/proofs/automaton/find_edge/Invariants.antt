use Rattle.std.proofs.Common.{◌≡◌, ◌-◌, ◌≤◌, length, take, drop, None}
use Rattle.lx_auto.specs.Automaton.{edge_on}
use Rattle.lx_auto.proofs.automaton.find_edge.Given as goal

abbrev pub invariant-loop-low : goal.invariant-loop-low
invariant-loop-low l = record {
  ordered : l.low ≤ l.high;
  within : l.high ≤ length l.edges;
  not_before : edge_on (take l.low l.edges) l.unit ≡ None;
  not_behind : edge_on (drop l.high l.edges) l.unit ≡ None;
}

abbrev pub decreases-loop-low : goal.decreases-loop-low
decreases-loop-low l = l.high - l.low
