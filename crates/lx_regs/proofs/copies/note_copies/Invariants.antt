use Rattle.lx_regs.specs.HeldGraphs.{IsHeldGraph}
use Rattle.lx_regs.proofs.copies.note_copies.Given as goal

abbrev pub invariant-loop-op : goal.invariant-loop-op
invariant-loop-op l = IsHeldGraph l.graph
