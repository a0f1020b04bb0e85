use Rattle.std.proofs.Common.{◌≡◌, ◌++◌, take, drop}
use Rattle.std.specs.Prelude.{map}
use Rattle.lx_min.specs.Merges.{moved_edge}
use Rattle.lx_min.specs.Numberings.{numbered_classes}
use Rattle.lx_min.proofs.merging.moved_edges.Given as goal

abbrev pub invariant-loop-edge : goal.invariant-loop-edge
invariant-loop-edge l =
    l.edge-items ≡ map (moved_edge (numbered_classes l.numbering).of) (take l.edge-index l.fn.edges) ++ drop l.edge-index l.fn.edges
