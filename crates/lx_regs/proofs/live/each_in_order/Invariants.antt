use Rattle.lx_regs.specs.LiveSets.{AreOrdered}
use Rattle.lx_regs.proofs.live.each_in_order.Given as goal

abbrev pub invariant-loop-usages : goal.invariant-loop-usages
invariant-loop-usages l = AreOrdered l.yielded l.ordered.items
