use Rattle.std.proofs.Common.{◌≡◌, drop, not}
use Rattle.std.specs.List.{list_any}
use Rattle.lx_auto.specs.declared.automaton.Edge.{Edge}
use Rattle.lx_search.specs.Scopes.{accepts}
use Rattle.lx_warn.proofs.entered.any_quiet.Given as goal

abbrev pub invariant-loop-edge : goal.invariant-loop-edge
invariant-loop-edge l =
    list_any (λ (edge : Edge). not (accepts l.auto' edge.to)) (drop l.edge-index l.edges)
    ≡ list_any (λ (edge : Edge). not (accepts l.auto' edge.to)) l.edges
