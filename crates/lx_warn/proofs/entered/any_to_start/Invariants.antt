use Rattle.std.proofs.Common.{◌≡◌, ◌==◌, drop}
use Rattle.std.specs.List.{list_any}
use Rattle.lx_auto.specs.declared.automaton.Edge.{Edge}
use Rattle.lx_warn.proofs.entered.any_to_start.Given as goal

abbrev pub invariant-loop-edge : goal.invariant-loop-edge
invariant-loop-edge l =
    list_any (λ (edge : Edge). edge.to == 0) (drop l.edge-index l.edges) ≡ list_any (λ (edge : Edge). edge.to == 0) l.edges
