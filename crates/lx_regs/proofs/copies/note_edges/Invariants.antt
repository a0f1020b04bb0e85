use Rattle.lx_regs.specs.HeldGraphs.{IsHeldGraph}
use Rattle.lx_regs.proofs.copies.note_edges.Given as goal

abbrev pub invariant-loop-edge : goal.invariant-loop-edge
invariant-loop-edge l = IsHeldGraph l.graph
