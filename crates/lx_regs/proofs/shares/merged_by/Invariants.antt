use Rattle.lx_regs.proofs.SharedNames.Merges.{MergesBelow}
use Rattle.lx_regs.proofs.shares.merged_by.Given as goal

abbrev pub invariant-loop-number : goal.invariant-loop-number
invariant-loop-number l = MergesBelow l.graph l.colours l.number l.merged
