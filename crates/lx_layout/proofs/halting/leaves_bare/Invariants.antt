use Rattle.std.proofs.Common.{◌≡◌, drop}
use Rattle.lx_layout.specs.Marks.{bare_from}
use Rattle.lx_layout.proofs.halting.leaves_bare.Given as goal

abbrev pub invariant-loop-edge : goal.invariant-loop-edge
invariant-loop-edge l = bare_from l.greatest l.low (drop l.edge-index l.edges) ≡ bare_from l.greatest 0 l.edges
