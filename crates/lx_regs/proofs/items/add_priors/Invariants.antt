use Rattle.std.proofs.Common.{take}
use Rattle.lx_regs.specs.Growth.{Grows, IsDueForSome}
use Rattle.lx_regs.specs.Items.{PassesBy}
use Rattle.lx_regs.proofs.items.add_priors.Given as goal

abbrev pub invariant-loop-arrow : goal.invariant-loop-arrow
invariant-loop-arrow l = Grows (IsDueForSome (take l.arrow-index l.arrows) (PassesBy l.numbers l.pairs l.leaves l.item)) l.initial.found
    l.found
