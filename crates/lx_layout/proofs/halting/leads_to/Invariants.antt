use Rattle.std.proofs.Common.{◌≡◌, drop}
use Rattle.std.specs.Prelude.{nat_eq}
use Rattle.std.specs.List.{list_any}
use Rattle.lx_auto.specs.declared.automaton.Edge.{Edge}
use Rattle.lx_layout.proofs.halting.leads_to.Given as goal

abbrev pub invariant-loop-edge : goal.invariant-loop-edge
invariant-loop-edge l =
    list_any (λ (edge : Edge). nat_eq edge.to l.number) (drop l.edge-index l.edges) ≡ list_any (λ (edge : Edge). nat_eq edge.to l.number) l.edges
