use Rattle.std.proofs.Common.{◌≡◌, drop, map, max}
use Rattle.lx_auto.specs.declared.automaton.Edge.{Edge as EdgeValue}
use Rattle.lx_fill.specs.Longest.{most_units}
use Rattle.lx_fill.proofs.longest.most_units.Given as goal

abbrev pub invariant-loop-edge : goal.invariant-loop-edge
invariant-loop-edge l =
    max l.most (most_units l.chosen l.known (map (λ (edge : EdgeValue). edge.to) (drop l.edge-index l.edges)))
    ≡ most_units l.chosen l.known (map (λ (edge : EdgeValue). edge.to) l.edges)
