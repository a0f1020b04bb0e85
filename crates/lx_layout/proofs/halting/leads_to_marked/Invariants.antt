use Rattle.std.proofs.Common.{◌≡◌, drop, false, slice_index_or}
use Rattle.std.specs.List.{list_any}
use Rattle.lx_auto.specs.declared.automaton.Edge.{Edge}
use Rattle.lx_layout.proofs.halting.leads_to_marked.Given as goal

abbrev pub invariant-loop-edge : goal.invariant-loop-edge
invariant-loop-edge l =
    list_any (λ (edge : Edge). slice_index_or l.falls edge.to false) (drop l.edge-index l.edges)
    ≡ list_any (λ (edge : Edge). slice_index_or l.falls edge.to false) l.edges
