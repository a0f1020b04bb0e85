use Rattle.std.proofs.Common.{take}
use Rattle.lx_regs.specs.Growth.{Grows, IsDueForSome}
use Rattle.lx_regs.specs.Items.{IsAt}
use Rattle.lx_regs.proofs.items.add_keys.Given as goal

abbrev pub invariant-loop-key : goal.invariant-loop-key
invariant-loop-key l = Grows (IsDueForSome (take l.key-index l.keys) (IsAt l.pair)) l.initial.found l.found
