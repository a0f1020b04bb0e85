use Rattle.std.proofs.Common.{take}
use Rattle.lx_regs.specs.FoldedEdges.{AreFoldedStates}
use Rattle.lx_regs.proofs.folding.folded_states.Given as goal

abbrev pub invariant-loop-state : goal.invariant-loop-state
invariant-loop-state l = AreFoldedStates (take l.state-index l.states) l.kept l.lists
