use Rattle.std.proofs.Common.{take}
use Rattle.lx_regs.specs.Growth.{Grows, IsDueForSome}
use Rattle.lx_regs.specs.Items.{IsReadAt}
use Rattle.lx_regs.proofs.items.add_reads.Given as goal

abbrev pub invariant-loop-value : goal.invariant-loop-value
invariant-loop-value l = Grows (IsDueForSome (take l.value-index l.values) (IsReadAt l.state l.ops)) l.initial.found l.found
