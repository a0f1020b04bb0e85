use Rattle.std.proofs.Common.{◌-◌, length}
use Rattle.lx_regs.proofs.ordered.place_from.Given as goal

abbrev pub decreases-loop-at : goal.decreases-loop-at
decreases-loop-at l = length l.ops - l.at
