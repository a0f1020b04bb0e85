use Rattle.lx_regs.specs.Arrows.{AreArrows}
use Rattle.lx_regs.proofs.arrows.arrows_of.Given as goal

abbrev pub invariant-loop-number : goal.invariant-loop-number
invariant-loop-number l = AreArrows l.auto' l.number l.lists.items
