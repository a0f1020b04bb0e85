use Rattle.std.proofs.Common.{◌≡◌, ◌++◌, drop}
use Rattle.lx_regs.proofs.effects.push_all.Given as goal

abbrev pub invariant-loop-mark : goal.invariant-loop-mark
invariant-loop-mark l = l.marks ++ drop l.mark-index l.others ≡ l.initial.marks ++ l.others
