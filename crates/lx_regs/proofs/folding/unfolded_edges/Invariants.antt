use Rattle.std.proofs.Common.{◌≡◌, take}
use Rattle.std.specs.Prelude.{map}
use Rattle.lx_regs.specs.FoldedEdges.{unfolded_edge}
use Rattle.lx_regs.proofs.folding.unfolded_edges.Given as goal

abbrev pub invariant-loop-fold : goal.invariant-loop-fold
invariant-loop-fold l = l.edges ≡ map (unfolded_edge l.kept) (take l.fold-index l.folds)
