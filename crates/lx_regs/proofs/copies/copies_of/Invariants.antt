use Rattle.lx_regs.specs.HeldGraphs.{IsHeldGraph}
use Rattle.lx_regs.proofs.copies.copies_of.Given as goal

abbrev pub invariant-loop-state : goal.invariant-loop-state
invariant-loop-state l = IsHeldGraph l.graph
