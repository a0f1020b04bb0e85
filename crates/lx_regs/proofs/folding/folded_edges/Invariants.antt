use Rattle.std.proofs.Common.{take}
use Rattle.lx_regs.proofs.FoldedEdges.FoldSteps.{IsFoldedFront, first_edges}
use Rattle.lx_regs.proofs.folding.folded_edges.Given as goal

abbrev pub invariant-loop-edge : goal.invariant-loop-edge
invariant-loop-edge l = IsFoldedFront (take l.edge-index l.edges) (first_edges l.classes.keys) l.folds
