use Rattle.lx_regs.specs.Growth.{Grows}
use Rattle.lx_regs.proofs.LiveRegisters.FirstItems.{IsAcceptedBelow}
use Rattle.lx_regs.proofs.items.add_accepts.Given as goal

abbrev pub invariant-loop-number : goal.invariant-loop-number
invariant-loop-number l = Grows (IsAcceptedBelow l.auto' l.number) l.initial.found l.found
