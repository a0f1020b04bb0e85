use Rattle.std.proofs.Common.{◌≡◌, take}
use Rattle.lx_regs.specs.FoldedEdges.{unfolded_states}
use Rattle.lx_regs.proofs.folding.unfolded_states.Given as goal

abbrev pub invariant-loop-number : goal.invariant-loop-number
invariant-loop-number l = l.answer ≡ unfolded_states (take l.number l.states) (take l.number l.lists)
