use Rattle.std.proofs.Common.{ℕ, ◌<◌, IsSome}
use Rattle.lx_auto.specs.Automaton.{edge_on}
use Rattle.lx_search.proofs.EdgeFronts.{IsPassed}
use Rattle.lx_warn.proofs.gaps.least_free.Given as goal

abbrev pub invariant-loop-edge : goal.invariant-loop-edge
invariant-loop-edge l = record {
  passed : IsPassed l.edges l.edge-index l.least;
  all : (unit : ℕ) → unit < l.least → IsSome (edge_on l.edges unit);
}
