use Rattle.std.proofs.Common.{◌≡◌, take}
use Rattle.lx_regs.proofs.FoldedEdges.FoldSteps.{first_edges}
use Rattle.lx_regs.proofs.folding.first_edges.Given as goal

abbrev pub invariant-loop-class : goal.invariant-loop-class
invariant-loop-class l = l.kept ≡ first_edges (take l.class-index l.classes)
