use Rattle.std.proofs.Common.{◌≡◌, drop}
use Rattle.lx_min.specs.Distances.{nearest}
use Rattle.lx_min.proofs.distances.nearest.Given as goal

abbrev pub invariant-loop-edge : goal.invariant-loop-edge
invariant-loop-edge l = nearest l.distances (drop l.edge-index l.edges) l.least ≡ nearest l.distances l.edges l.far
