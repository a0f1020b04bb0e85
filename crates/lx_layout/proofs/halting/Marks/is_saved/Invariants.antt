use Rattle.std.proofs.Common.{◌≡◌, drop}
use Rattle.std.specs.List.{list_any}
use Rattle.lx_auto.specs.declared.automaton.Edge.{Edge}
use Rattle.lx_layout.specs.Halting.{is_saved, saves_on}
use Rattle.lx_layout.specs.Marks.{seen_marks}
use Rattle.lx_layout.proofs.halting.Marks.is_saved.Given as goal

abbrev pub invariant-loop-edge : goal.invariant-loop-edge
invariant-loop-edge l =
    list_any (λ (edge : Edge). saves_on (seen_marks l.self) l.state edge) (drop l.edge-index l.edge-items) ≡ is_saved (seen_marks l.self) l.state
