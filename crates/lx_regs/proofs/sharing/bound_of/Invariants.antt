use Rattle.std.proofs.Common.{take}
use Rattle.lx_regs.specs.Bounds.{IsBoundOf}
use Rattle.lx_regs.proofs.sharing.bound_of.Given as goal

abbrev pub invariant-loop-number : goal.invariant-loop-number
invariant-loop-number l = IsBoundOf (take l.number-index l.numbers) l.bound
